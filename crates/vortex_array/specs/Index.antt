-- Rows as indices.
use Rattle.std.specs.Prelude.{ℤ, List, map}
use Rattle.vortex_array_types.specs.Row.{Column}
use Rattle.vortex_array_types.specs.declared.scalar.Value.TheVariants as value
use Rattle.vortex_array_types.specs.declared.types.DType.TheVariants as dtype
use Rattle.vortex_array_types.specs.declared.types.PType.TheVariants as width
use Rattle.vortex_array_kinds.specs.Validities.{nullability_of, rows_under}
use Rattle.vortex_array_kinds.specs.declared.validity.Validity.{Validity}

-- numbers as a column of indices, of which the validity says which are null
abbrev pub number_column : Validity → List ℤ → Column
number_column nulls numbers = record {
  dtype = dtype.Primitive width.U64 (nullability_of nulls);
  rows = rows_under nulls (map (λ n. value.Int n) numbers);
}
