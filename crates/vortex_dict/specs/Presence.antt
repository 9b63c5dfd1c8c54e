-- Which rows of a dictionary are not null.
use Rattle.std.specs.Prelude.{◌≡◌, ◌<◌, ℕ, pos, Bool, false, List, length, Option, Some, None, is_some, slice_index_or}
use Rattle.vortex_array_types.specs.declared.scalar.Value.{Value}
use Rattle.vortex_array_types.specs.declared.scalar.Value.TheVariants as value
use Rattle.vortex_array_kinds.specs.Validities.{valid_at}
use Rattle.vortex_array_kinds.specs.declared.validity.Validity.{Validity}

-- the validity says of each row whether it is not null
pub record Shows (rows : List (Option Value)) (v : Validity) : Type 0 where
  pub at : (i : ℕ) → i < length rows → valid_at v i ≡ is_some (slice_index_or rows i None)

-- the code is not null, nor is the value there, of which a validity tells
abbrev pub names_value : Validity → Option Value → Bool
names_value v (Some (value.Int (pos i))) = valid_at v i
names_value v _ = false
