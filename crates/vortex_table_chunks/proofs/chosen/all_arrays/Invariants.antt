use Rattle.std.proofs.Common.{map, take, length}
use Rattle.std.specs.List.{AllZip}
use Rattle.vortex_array_rows.specs.Kept.{kept_by}
use Rattle.vortex_buffer.specs.Mask.{mask_bits}
use Rattle.vortex_table_chunks.specs.Kept.{HoldsNamed}
use Rattle.vortex_table_chunks.specs.Rows.{cells_of}
use Rattle.vortex_table_chunks.proofs.chosen.all_arrays.Given as goal

abbrev pub invariant-loop-i : goal.invariant-loop-i
invariant-loop-i l = AllZip (HoldsNamed l.columns (kept_by (mask_bits l.kept) (cells_of l.columns l.chunks (length (mask_bits l.kept))))) (take l.i (map (λ column. column.name) l.columns)) l.arrays.items
