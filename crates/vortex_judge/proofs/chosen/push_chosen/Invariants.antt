use Rattle.std.proofs.Common.{◌≡◌, ◌++◌, drop}
use Rattle.vortex_judge.specs.Steps.{chosen_part}
use Rattle.vortex_judge.proofs.chosen.push_chosen.Given as goal

abbrev pub invariant-loop-row : goal.invariant-loop-row
invariant-loop-row l =
    l.list.items ++ chosen_part l.request l.columns l.partition l.row (drop l.row l.rows) ≡ l.initial.list.items ++ chosen_part l.request l.columns l.partition 0 l.rows
