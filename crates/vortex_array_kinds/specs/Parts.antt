-- What contracts see of the kinds of columns.
use Rattle.std.specs.Prelude.{ℕ, List}
use Rattle.vortex_array_types.specs.Row.{TypedRow}
use Rattle.vortex_array_kinds.specs.declared.validity.Validity.{Validity}
use Rattle.vortex_array_kinds.specs.declared.strings.StringKind.{StringKind}

-- values, one for each row, and which rows are not null
pub record PlainParts (X : Type 0) : Type 0 where
  pub values : X
  pub validity : Validity

-- lists of bytes, all of them texts or none
pub record StringParts : Type 0 where
  pub kind : StringKind
  pub lists : List (List ℕ)

-- the row that each row is, and how many there are
pub record ConstantParts : Type 0 where
  pub scalar : TypedRow
  pub len : ℕ
