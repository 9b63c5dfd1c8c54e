-- Casts of decimals in parts.
use Rattle.std.specs.Prelude.{◌≡◌, false, List, Option, None, is_some, slice_index_or}
use Rattle.vortex_array_types.specs.Row.{Column}
use Rattle.vortex_array_types.specs.declared.types.DType.{DType}
use Rattle.vortex_array_types.specs.declared.scalar.Value.{Value}
use Rattle.vortex_array_cast.specs.Casts.{AllFit, FirstUnfit, IsCast, StopsAt}
use Rattle.vortex_decimal_byte_parts.specs.declared.errors.PartsCastError.{PartsCastError}
use Rattle.vortex_decimal_byte_parts.specs.declared.errors.PartsCastError.TheVariants.{HasNull, OutOfMemory}

-- why a cast is refused: the first row that is null in a type without nulls, or memory alone
abbrev pub RefusesPartsCast : DType → Column → PartsCastError → Type 0
RefusesPartsCast t c (HasNull i) = StopsAt t c i false
RefusesPartsCast t c OutOfMemory = IsCast t c

-- why rows are not cast
abbrev pub RefusesNull : DType → List (Option Value) → PartsCastError → Type 0
RefusesNull t rows (HasNull i) = FirstUnfit t rows i × (is_some (slice_index_or rows i None) ≡ false)
RefusesNull t rows OutOfMemory = AllFit t rows
