-- Entries as columns.
use Rattle.std.specs.Prelude.{ℤ, List, map}
use Rattle.vortex_array_types.specs.Row.{Column}
use Rattle.vortex_array_types.specs.declared.types.DType.TheVariants as dtype
use Rattle.vortex_array_types.specs.declared.types.PType.{PType}
use Rattle.vortex_array_types.specs.declared.scalar.Value.TheVariants as value
use Rattle.vortex_array_kinds.specs.Parts.{PlainParts}
use Rattle.vortex_array_kinds.specs.Validities.{nullability_of, rows_under}

-- items of a native type, by the number of each, as a column of whole numbers
abbrev pub number_entries : {T : Type 0} → PType → (T → ℤ) → PlainParts (List T) → Column
number_entries width number e = record {
  dtype = dtype.Primitive width (nullability_of e.validity);
  rows = rows_under e.validity (map (λ item. value.Int (number item)) e.values);
}
