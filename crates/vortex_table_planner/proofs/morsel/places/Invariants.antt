use Rattle.std.proofs.Common.{◌≡◌, take}
use Rattle.vortex_table_planner.specs.Morsels.{no_chunks}
use Rattle.vortex_table_planner.proofs.morsel.places.Given as goal

abbrev pub invariant-loop-column : goal.invariant-loop-column
invariant-loop-column l = l.chunks.items ≡ no_chunks (take l._column-index l.columns)
