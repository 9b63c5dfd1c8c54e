use Rattle.std.proofs.Common.{ℕ, ◌<◌, ◌≡◌, map}
use Rattle.vortex_array.specs.ColumnOf.{column_of}
use Rattle.vortex_dict.specs.NamedValues.{row_named}
use Rattle.vortex_dict.proofs.constant.places_name_one.Given as goal

abbrev pub invariant-loop-row : goal.invariant-loop-row
invariant-loop-row g l = (k : ℕ) → k < l.row → row_named (column_of l.values).rows l.nulls (map g.P.RowIndex.place l.items) k ≡ row_named (column_of l.values).rows l.nulls (map g.P.RowIndex.place l.items) 0
