use Rattle.std.proofs.Common.{◌∙◌, ap, chars}
use Rattle.vortex_array_types.specs.Matches.{matches_chars, some_suffix}
use Rattle.vortex_array_predicates.specs.Outcomes.{asks}
use Rattle.vortex_array_predicates.proofs.Suffixes.{suffix-end, suffix-run}
use Rattle.vortex_array_predicates.proofs.like.match_anywhere.Goals as goal

pub returns-in_default-clause-answer : goal.returns-in_default-clause-answer
returns-in_default-clause-answer c = ap (λ z. some_suffix (matches_chars z) (chars c.args.text.now)) c.in_default.ensures.ended ∙ suffix-end (chars c.args.text.now)

pub returns-in-AnyRun-clause-answer : goal.returns-in-AnyRun-clause-answer
returns-in-AnyRun-clause-answer c =
    suffix-run (matches_chars (chars c.args.pattern.now)) (matches_chars (chars c.in-Some.behind.now))
    (λ t. c.in-Some.ensures.first t ∙ ap (λ el. asks el (matches_chars (chars c.in-Some.behind.now)) t) c.in-AnyRun.is) (chars c.args.text.now)
