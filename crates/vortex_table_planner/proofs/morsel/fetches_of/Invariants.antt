use Rattle.std.proofs.Common.{◌≡◌, take}
use Rattle.vortex_table_planner.specs.Morsels.{requests_of}
use Rattle.vortex_table_planner.proofs.morsel.fetches_of.Given as goal

abbrev pub invariant-loop-column : goal.invariant-loop-column
invariant-loop-column l = l.batch ≡ requests_of l.split (take l.column-index l.needed)
