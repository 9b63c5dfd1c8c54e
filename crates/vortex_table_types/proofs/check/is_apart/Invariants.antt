use Rattle.std.proofs.Common.{ℕ, ◌<◌}
use Rattle.std.specs.Prelude.{slice_index_or, ◌≢◌}
use Rattle.vortex_array_types.specs.declared.column.ColumnDesc.{ColumnDesc}
use Rattle.vortex_table_types.proofs.check.is_apart.Given as goal

abbrev pub invariant-loop-earlier : goal.invariant-loop-earlier
invariant-loop-earlier l = (i : ℕ) (d : ColumnDesc) → i < l.earlier → (slice_index_or l.columns i d).name ≢ (slice_index_or l.columns l.place d).name
