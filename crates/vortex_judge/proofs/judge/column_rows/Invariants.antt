use Rattle.std.proofs.Common.{◌≡◌, take, map}
use Rattle.std.specs.Prelude.{unwrap_or, slice_get, None}
use Rattle.vortex_judge.proofs.judge.column_rows.Given as goal

abbrev pub invariant-loop-row : goal.invariant-loop-row
invariant-loop-row l = l.cells.items ≡ map (λ x. unwrap_or (slice_get x.values l.column) None) (take l.row-index l.rows)
