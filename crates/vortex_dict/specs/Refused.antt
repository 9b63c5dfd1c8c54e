-- Why codes are refused.
use Rattle.std.specs.Prelude.{◌≡◌, ◌≤◌, ℕ, pos, IsTrue, IsFalse, List, All, Option, Some, None, slice_index_or, take}
use Rattle.vortex_array_types.specs.Row.{Column}
use Rattle.vortex_array_types.specs.declared.scalar.Value.{Value}
use Rattle.vortex_array_types.specs.declared.scalar.Value.TheVariants as value
use Rattle.vortex_array_select.specs.Selected.{IndexBelow, is_index_type}
use Rattle.vortex_dict.specs.declared.error.DictError.{DictError}
use Rattle.vortex_dict.specs.declared.error.DictError.TheVariants.{NotUnsigned, CodeOutOfRange}

-- the code in a row is not below n, and each before it is null or below n
pub record FirstOutside (rows : List (Option Value)) (n row code : ℕ) : Type 0 where
  pub there : slice_index_or rows row None ≡ Some (value.Int (pos code))
  pub outside : n ≤ code
  pub before : All (IndexBelow n) (take row rows)

-- why codes of so many values are refused: their type, else the first that is no place of a value
abbrev pub Refuses : Column → ℕ → DictError → Type 0
Refuses codes n NotUnsigned = IsFalse (is_index_type codes.dtype)
Refuses codes n (CodeOutOfRange row code) = IsTrue (is_index_type codes.dtype) × FirstOutside codes.rows n row code
