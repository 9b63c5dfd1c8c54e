-- What a builder keeps of its entries, and what one step of it does.
use Rattle.std.specs.Prelude.{◌≡◌, ◌<◌, ℕ, ℤ, pos, min, IsTrue, List, [], ◌∷◌, length, map, Option, Some, None, slice_index_or}
use Rattle.vortex_array_types.specs.Row.{Column, in_width}
use Rattle.vortex_array_types.specs.declared.types.PType.{PType}
use Rattle.vortex_array_types.specs.declared.types.DType.TheVariants as dtype
use Rattle.vortex_array_types.specs.declared.types.Nullability.TheVariants as nulls
use Rattle.vortex_array_types.specs.declared.scalar.Value.{Value}
use Rattle.vortex_array_types.specs.declared.scalar.Value.TheVariants as value
use Rattle.vortex_dict_builders.specs.Firsts.{StandsAt}
use Rattle.vortex_dict_builders.specs.Encoder.{Encoder, all_bytes}
use Rattle.vortex_dict_builders.specs.Encodes.{EncodesFirst, Takes, after}

-- what all entries cost, cut at the greatest number, and that each place is a code
pub record Keeps (entries : Column) (total : ℕ) (width : PType) : Type 0 where
  pub cost : total ≡ min (all_bytes entries.dtype entries.rows) 18446744073709551615
  pub places : (p : ℕ) → p < length entries.rows → IsTrue (in_width width (pos p))

-- the number is the place of a row among entries
pub record IsPlaceOf (entries : List (Option Value)) (number : ℤ) (row : Option Value) : Type 0 where
  pub place : ℕ
  pub same : number ≡ pos place
  pub at : StandsAt entries row place

-- a row is encoded: it was an entry or was let in, and the number is its place
pub record EncodesRow (old : Encoder) (row : Option Value) (number : ℤ) (new : Encoder) : Type 0 where
  pub takes : Takes old row
  pub entries : new ≡ after old (row ∷ [])
  pub code : IsPlaceOf new.entries number row

-- a row is not encoded, and nothing has changed
pub record LeavesRow (old : Encoder) (row : Option Value) (new : Encoder) : Type 0 where
  pub takes : Takes old row → ⊥
  pub kept : new ≡ old

-- the first rows are encoded, one number for each: up to the first that is no entry and is not let in, or all of them
pub record EncodesTo (old : Encoder) (rows : List (Option Value)) (numbers : List ℤ) (new : Encoder) : Type 0 where
  pub prefix : EncodesFirst old rows (length numbers) new
  pub stops : length numbers < length rows → Takes new (slice_index_or rows (length numbers) None) → ⊥
  pub codes : (k : ℕ) → k < length numbers → IsPlaceOf new.entries (slice_index_or numbers k (pos 0)) (slice_index_or rows k None)

-- numbers of a width as a column without nulls
abbrev pub code_column : PType → List ℤ → Column
code_column width numbers = record { dtype = dtype.Primitive width nulls.NonNullable; rows = map (λ v. Some v) (map (λ n. value.Int n) numbers) }
