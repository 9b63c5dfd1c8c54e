use Rattle.std.proofs.Common.{ℕ, ◌<◌}
use Rattle.std.specs.Prelude.{slice_index_or}
use Rattle.vortex_table_types.specs.declared.describe.SplitDesc.{SplitDesc}
use Rattle.vortex_table_types.specs.Described.{FitsColumns}
use Rattle.vortex_table_types.proofs.check.first_unfit_split.Given as goal

abbrev pub invariant-loop-index : goal.invariant-loop-index
invariant-loop-index l = (k : ℕ) (d : SplitDesc) → k < l.index → FitsColumns l.columns (slice_index_or l.splits k d)
