use Rattle.std.proofs.Common.{arith, ◌∙◌, ◌-◌, ap, drop, length, length-drop, sym, take}
use Rattle.std.specs.Prelude.{nat_eq}
use Rattle.std.specs.Cmp.Lexicographic.{pointwise}
use Rattle.std.proofs.Math.Seq.{take-length}
use Rattle.vortex_array_predicates.proofs.Forms.{ends-longer, ends-same}
use Rattle.vortex_array_predicates.proofs.like_form.ends_with.Goals as goal

pub returns-then-text-end : goal.returns-then-text-end
returns-then-text-end c = ends-longer c.args.text.now c.args.end.now c.utf8.text c.utf8.end c.if-text-end.true

pub returns : goal.returns
returns c =
    let text = c.args.text.now in
    let start = length text - length c.args.end.now in
    (rw (c.as_bytes.ensures.value, c.as_bytes-2.ensures.value) at c.eq.ensures)
    ∙ ap (λ part. pointwise nat_eq part c.args.end.now) (ap (λ n. take n (drop start text)) (sym (length-drop start text)) ∙ take-length (drop start text))
    ∙ ends-same text c.args.end.now start c.utf8.text c.utf8.end (omega arith)
