use Rattle.std.proofs.Common.{rules, ◌∙◌, ◌||◌, ap, chars}
use Rattle.vortex_array_types.specs.Matches.{first_then, matches_chars, some_suffix}
use Rattle.vortex_array_predicates.specs.Outcomes.{passes, settled}
use Rattle.vortex_array_predicates.proofs.Suffixes.{settled-here}
use Rattle.vortex_array_predicates.proofs.like.match_from_places.Goals as goal
use Rattle.vortex_array_predicates.proofs.like.match_from_places.Goals.{in-Failed, in_default-matches}

pub returns-then-not-matches-clause-answer : goal.returns-then-not-matches-clause-answer
returns-then-not-matches-clause-answer c =
    c.loop-rest.invariant.left
    ∙ c.in-Some.ensures.found (matches_chars (chars c.args.behind.now))
    ∙ elim c.match-matches.branch [
      | in-Failed w ↦ absurd (cc (w.matches-is, c.if-not-matches.true))
      | in_default-matches w ↦ settled-here (matches_chars (chars c.args.behind.now)) (passes c.args.element) (chars c.in-Some.rest.now) c.match_front-outcome.result w.in_default-matches.not-Failed c.match_front-outcome.ensures.answer c.match_front-outcome.ensures.later
    ]

pub loop-rest-preserved : goal.loop-rest-preserved
loop-rest-preserved c = elim c.match-matches.branch [
  | in-Failed w ↦ record {
    is_text = search rules;
    left = c.loop-rest.invariant.left
        ∙ c.in-Some.ensures.found (matches_chars (chars c.args.behind.now))
        ∙ ap (λ b. b || some_suffix (first_then (passes c.args.element) (matches_chars (chars c.args.behind.now))) (chars c.in-Some.rest.now)) (c.match_front-outcome.ensures.answer ∙ ap settled w.in-Failed.is);
  }
  | in_default-matches w ↦ absurd (cc (w.matches-is, c.if-not-matches.false))
]

pub returns-clause-answer : goal.returns-clause-answer
returns-clause-answer c = c.loop-rest.invariant.left ∙ c.in_default.ensures.none (matches_chars (chars c.args.behind.now))
