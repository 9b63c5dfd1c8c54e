-- What a builder of dictionaries means, and which rows it has room for.
use Rattle.std.specs.Prelude.{ℕ, ◌+◌, ◌==◌, ◌&&◌, ◌||◌, nat_le, nat_lt, cond, pos, Bool, List, length, Option, Some}
use Rattle.std.specs.List.{sum_by}
use Rattle.vortex_array_types.specs.Row.{Column, in_width}
use Rattle.vortex_array_types.specs.Widths.{bytes_in}
use Rattle.vortex_array_types.specs.declared.types.DType.{DType}
use Rattle.vortex_array_types.specs.declared.types.DType.TheVariants.{Primitive}
use Rattle.vortex_array_types.specs.declared.types.PType.{PType}
use Rattle.vortex_array_types.specs.declared.scalar.Value.{Value}
use Rattle.vortex_array_types.specs.declared.scalar.Value.TheVariants.{Utf8, Binary}
use Rattle.vortex_dict_builders.specs.declared.constraints.DictConstraints.{DictConstraints}

-- the type of the rows that it takes, the distinct rows so far, how many there may be, and the width of the codes
pub record Encoder : Type 0 where
  pub dtype : DType
  pub entries : List (Option Value)
  pub limits : DictConstraints
  pub width : PType

-- what a list of bytes costs: 16, and its length besides where that is above 12
abbrev pub list_bytes : ℕ → ℕ
list_bytes n = cond (nat_lt 12 n) (16 + n) 16

-- what an entry costs, by its type: the bytes of its width, or those of a list of bytes; null costs 16 there
abbrev pub entry_bytes : DType → Option Value → ℕ
entry_bytes (Primitive width nulls) row = bytes_in width
entry_bytes t (Some (Utf8 text)) = list_bytes (length text)
entry_bytes t (Some (Binary bytes)) = list_bytes (length bytes)
entry_bytes t row = 16

-- what all entries cost
abbrev pub all_bytes : DType → List (Option Value) → ℕ
all_bytes t entries = sum_by (entry_bytes t) entries

-- a limit lets so much be; the greatest number lets all be
abbrev pub lets_be : ℕ → ℕ → Bool
lets_be limit amount = nat_le amount limit || limit == 18446744073709551615

-- one more entry that costs so much is let in: its place is a code, and neither limit is passed
abbrev pub room_for : Encoder → ℕ → Bool
room_for e cost = in_width e.width (pos (length e.entries)) && (lets_be e.limits.max_len (length e.entries + 1) && lets_be e.limits.max_bytes (all_bytes e.dtype e.entries + cost))

-- and so a row
abbrev pub has_room : Encoder → Option Value → Bool
has_room e row = room_for e (entry_bytes e.dtype row)

-- the same with other entries
abbrev pub with_entries : List (Option Value) → Encoder → Encoder
with_entries entries e = record e { entries = entries }

-- the entries as a column
abbrev pub entries_column : Encoder → Column
entries_column e = record { dtype = e.dtype; rows = e.entries }
