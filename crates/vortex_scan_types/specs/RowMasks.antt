-- Masks of rows that stand one after another.
use Rattle.std.specs.Prelude.{◌≡◌, ℕ, ◌+◌, nat_lt, cond, length}
use Rattle.std.specs.declared.ops.Range.{Range}
use Rattle.vortex_buffer.specs.Mask.{mask_bits}
use Rattle.vortex_buffer.specs.declared.mask.Mask.{Mask}
use Rattle.vortex_scan_types.specs.declared.selection.Selection.{Selection}
use Rattle.vortex_scan_types.specs.Members.{bits_in_range}

-- the number of the first row, and a mask with a bit for each row from there on
pub record MaskedRows : Type 0 where
  pub row_offset : ℕ
  pub mask : Mask

-- the rows that have a bit
abbrev pub rows_of : MaskedRows → Range ℕ
rows_of rows = record { start = rows.row_offset; end = rows.row_offset + length (mask_bits rows.mask) }

-- where the mask of a range begins: at the range's start, or at 0 where the range has no place
abbrev pub offset_of : Range ℕ → ℕ
offset_of range = cond (nat_lt range.start range.end) range.start 0

-- the mask of a range: a bit for each of its places, set where the selection holds the place
pub record IsRowMask (selection : Selection) (range : Range ℕ) (rows : MaskedRows) : Type 0 where
  pub offset : rows.row_offset ≡ offset_of range
  pub bits : mask_bits rows.mask ≡ bits_in_range selection range
