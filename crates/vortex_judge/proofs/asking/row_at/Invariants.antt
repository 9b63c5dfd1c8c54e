use Rattle.std.proofs.Common.{◌≡◌, take, map}
use Rattle.std.specs.Prelude.{unwrap_or, slice_get, None}
use Rattle.vortex_judge.proofs.asking.row_at.Given as goal

abbrev pub invariant-loop-column : goal.invariant-loop-column
invariant-loop-column l = l.cells.items ≡ map (λ column. unwrap_or (slice_get column.rows l.row) None) (take l.column-index l.columns)
