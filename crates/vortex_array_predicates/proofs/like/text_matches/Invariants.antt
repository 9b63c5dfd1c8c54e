use Rattle.std.proofs.Common.{◌≡◌}
use Rattle.vortex_array_types.specs.Matches.{matches as is_match}
use Rattle.vortex_array_predicates.specs.Outcomes.{left_over, settled}
use Rattle.vortex_array_predicates.proofs.like.text_matches.Given as goal

-- what is left to match decides
abbrev pub invariant-loop-outcome : goal.invariant-loop-outcome
invariant-loop-outcome l = is_match l.pattern l.text ≡ settled l.outcome

abbrev pub decreases-loop-outcome : goal.decreases-loop-outcome
decreases-loop-outcome l = left_over l.outcome
