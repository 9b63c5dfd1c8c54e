use Rattle.std.proofs.Common.{◌-◌, arith, ◌∙◌, ◌≡◌, ap, drop, length, take, true}
use Rattle.std.proofs.Math.Seq.{take-length}
use Rattle.std.specs.Prelude.{nat_eq, slice_range}
use Rattle.std.specs.Cmp.Lexicographic.{pointwise}
use Rattle.vortex_array_predicates.specs.Forms.{form_tells}
use Rattle.vortex_array_predicates.proofs.Forms.{behind-run, ends-with, front-run, run-end, told-run, whole-matches}
use Rattle.vortex_array_predicates.proofs.like_form.matches_form.Goals as goal

pub returns-in-Plain : goal.returns-in-Plain
returns-in-Plain c =
    let told : form_tells c.args.form c.args.pattern.now ≡ true = c.requires in
    c.eq.ensures ∙ whole-matches c.args.pattern.now c.args.text.now c.utf8.pattern c.utf8.text (rw c.in-Plain.is at told)

pub range_from-requires : goal.range_from-requires
range_from-requires c =
    let told : form_tells c.args.form c.args.pattern.now ≡ true = c.requires in
    λ _. rw (take-length c.args.pattern.now) (behind-run c.args.pattern.now c.utf8.pattern (told-run c.args.pattern.now (rw c.in-PlainEnd.is at told)))

pub returns-in-PlainEnd : goal.returns-in-PlainEnd
returns-in-PlainEnd c =
    let told : form_tells c.args.form c.args.pattern.now ≡ true = c.requires in
    c.ends_with.ensures ∙ ap (ends-with c.args.text.now) c.range_from.ensures.value ∙ ap (λ z. ends-with c.args.text.now (drop 1 z)) (take-length c.args.pattern.now) ∙ run-end c.args.pattern.now c.args.text.now (rw c.in-PlainEnd.is at told)

pub returns-in-PlainFront : goal.returns-in-PlainFront
returns-in-PlainFront c =
    let told : form_tells c.args.form c.args.pattern.now ≡ true = c.requires in
    let n = length c.args.pattern.now - 1 in
    let front : c.range.result.now ≡ take n c.args.pattern.now = c.range.ensures.value ∙ ap (λ z. slice_range z 0 n) (take-length c.args.pattern.now) ∙ ap (λ k. take k c.args.pattern.now) (omega arith) in
    c.starts_with.ensures ∙ ap (λ z. pointwise nat_eq (take (length z) c.args.text.now) z) front ∙ front-run c.args.pattern.now c.args.text.now c.utf8.pattern c.utf8.text (rw c.in-PlainFront.is at told)
