use Rattle.std.proofs.Common.{rules, ◌∙◌, sym, ap, chars, arith}
use Rattle.vortex_array_types.specs.Matches.{first_then, some_suffix}
use Rattle.vortex_array_predicates.specs.Outcomes.{passes}
use Rattle.vortex_array_predicates.proofs.Suffixes.{pass-here, pass-over}
use Rattle.vortex_array_predicates.proofs.like.behind_first.Goals as goal

pub returns-then-passes-clause-found : goal.returns-then-passes-clause-found
returns-then-passes-clause-found c =
    λ behind. c.loop-c.invariant.over behind
    ∙ pass-here (passes c.args.element) behind (chars c.loop-c.text.now) (chars c.in-Some.rest.now) c.in-Some.c c.in-Some.ensures.first (sym c.passes.ensures ∙ c.if-passes.true)

pub loop-c-preserved : goal.loop-c-preserved
loop-c-preserved c = record {
  is_text = search rules;
  over = λ behind. c.loop-c.invariant.over behind ∙ pass-over (passes c.args.element) behind (chars c.loop-c.text.now) (chars c.in-Some.rest.now) c.in-Some.c c.in-Some.ensures.first (sym c.passes.ensures ∙ c.if-passes.false);
  shorter = omega (arith, c.in-Some.ensures.shorter);
}

pub returns-clause-none : goal.returns-clause-none
returns-clause-none c = λ behind. c.loop-c.invariant.over behind ∙ ap (some_suffix (first_then (passes c.args.element) behind)) c.in_default.ensures.ended
