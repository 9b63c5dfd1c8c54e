-- A test of the values of two columns.
use Rattle.std.specs.Prelude.{Bool}
use Rattle.std.specs.Simd.Lanes.{zip2}
use Rattle.vortex_array_types.specs.Row.{Column}
use Rattle.vortex_array_types.specs.Truth.{both}
use Rattle.vortex_array_types.specs.declared.scalar.Value.{Value}
use Rattle.vortex_array_kinds.specs.Truths.{either_column, truths}

-- row by row, what the test says of two values, and null where a row is null
abbrev pub tested : (Value → Value → Bool) → Column → Column → Column
tested test a b = truths (either_column a b) (zip2 (both test) a.rows b.rows)
