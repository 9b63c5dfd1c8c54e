use Rattle.std.proofs.Common.{rules, ◌≡◌, ◌∙◌, sym, ap, chars, true, arith, []}
use Rattle.vortex_array_types.specs.Matches.{matches_chars}
use Rattle.vortex_array_predicates.specs.Outcomes.{passes}
use Rattle.vortex_array_predicates.proofs.Suffixes.{suffix-whole, step-here, step-later, run-later}
use Rattle.vortex_array_predicates.proofs.like.match_front.Goals as goal

pub returns-in-AnyRun-clause-later : goal.returns-in-AnyRun-clause-later
returns-in-AnyRun-clause-later c =
    run-later (matches_chars (chars c.args.pattern.now)) (matches_chars (chars c.loop-element.pattern.now)) (matches_chars (chars c.in-Some.behind.now)) c.in-Some.element
    (chars c.args.text.now) (chars c.loop-element.text.now) c.in-Some.ensures.first c.in-AnyRun.is c.loop-element.invariant.here c.loop-element.invariant.later

pub loop-element-preserved : goal.loop-element-preserved
loop-element-preserved c =
    let p : passes c.in-Some.element c.in-Some-split_first.c ≡ true = sym c.passes.ensures ∙ c.if-not-passes.false in
    let here = step-here (matches_chars (chars c.args.pattern.now)) (matches_chars (chars c.loop-element.pattern.now)) (matches_chars (chars c.in-Some.behind.now)) c.in-Some.element
    (chars c.args.text.now) (chars c.loop-element.text.now) c.in-Some.ensures.first _ _ p c.in-Some-split_first.ensures.first c.loop-element.invariant.here in
    let later = step-later (matches_chars (chars c.args.pattern.now)) (matches_chars (chars c.loop-element.pattern.now)) (matches_chars (chars c.in-Some.behind.now)) c.in-Some.element
    (chars c.args.text.now) (chars c.loop-element.text.now) c.in-Some.ensures.first _ _ p c.in-Some-split_first.ensures.first c.loop-element.invariant.later in
    record {
      pattern_is_text = search rules;
      text_is_text = search rules;
      here = here;
      later = later;
      shorter = omega (arith, c.in-Some.ensures.shorter);
    }

pub returns-in-None-clause-later : goal.returns-in-None-clause-later
returns-in-None-clause-later c =
    suffix-whole (matches_chars (chars c.args.pattern.now)) (chars c.args.text.now)
    (c.loop-element.invariant.here ∙ ap (λ z. matches_chars z (chars c.loop-element.text.now)) c.in_default.ensures.ended ∙ ap (matches_chars []) c.in-None.ensures.ended)
