-- What the definitions imply.
use Rattle.std.specs.Prelude.{◌≡◌, ◌<◌, ◌++◌, ℕ, List, count_by, map, not}
use Rattle.std.specs.declared.ops.Range.{Range}
use Rattle.vortex_buffer.specs.Mask.{mask_bits}
use Rattle.vortex_scan_types.specs.declared.selection.Selection.{Selection}
use Rattle.vortex_scan_types.specs.declared.selection.Selection.TheVariants.{IncludeByIndex, ExcludeByIndex}
use Rattle.vortex_scan_types.specs.Members.{in_selection, count_in_range}
use Rattle.vortex_scan_types.specs.RowMasks.{MaskedRows, IsRowMask, rows_of}

-- of include and exclude by one list, exactly one holds a place
abbrev pub SelectionsPartition : Type 0
SelectionsPartition = (listed : List ℕ) (place : ℕ) → in_selection (ExcludeByIndex listed) place ≡ not (in_selection (IncludeByIndex listed) place)

-- a row mask of a range that has a place has that range, and as many set places as the selection holds of it
abbrev pub RowMasksCount : Type 0
RowMasksCount = (selection : Selection) (range : Range ℕ) (rows : MaskedRows) → range.start < range.end → IsRowMask selection range rows → (rows_of rows ≡ range) × (count_by (λ bit. bit) (mask_bits rows.mask) ≡ count_in_range selection range)

-- row masks of two ranges side by side, each with a place, joined are the row mask of the joined range
abbrev pub RowMasksJoin : Type 0
RowMasksJoin = (selection : Selection) (first middle end : ℕ) (left right whole : MaskedRows) → first < middle → middle < end → IsRowMask selection (record { start = first; end = middle }) left → IsRowMask selection (record { start = middle; end = end }) right → IsRowMask selection (record { start = first; end = end }) whole → (mask_bits whole.mask ≡ mask_bits left.mask ++ mask_bits right.mask) × (whole.row_offset ≡ left.row_offset)

-- the row masks of include and exclude by one list are complementary on every range
abbrev pub RowMasksComplement : Type 0
RowMasksComplement = (listed : List ℕ) (range : Range ℕ) (included excluded : MaskedRows) → IsRowMask (IncludeByIndex listed) range included → IsRowMask (ExcludeByIndex listed) range excluded → (mask_bits excluded.mask ≡ map not (mask_bits included.mask)) × (excluded.row_offset ≡ included.row_offset)
