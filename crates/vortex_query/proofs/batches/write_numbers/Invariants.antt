use Rattle.std.proofs.Common.{Some, List, ℕ, ◌++◌, map, take}
use Rattle.std.specs.List.{flat_map}
use Rattle.vortex_array_types.specs.declared.column.ColumnDesc.{ColumnDesc}
use Rattle.vortex_query.specs.Shown.{Holds, IsOneU64Column, number_row}
use Rattle.vortex_query.specs.Text.{line_text}
use Rattle.vortex_query.proofs.batches.write_numbers.Given as goal

abbrev pub invariant-loop-number : goal.invariant-loop-number
invariant-loop-number l =
    (columns : List ColumnDesc) → IsOneU64Column columns → (written : List ℕ) → Holds (λ v. Some v.items) l.fn.writer written
    → Holds (λ v. Some v.items) l.writer (written ++ flat_map (line_text columns) (map number_row (take l.number-index l.numbers)))
