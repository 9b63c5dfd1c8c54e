-- A value in each row.
use Rattle.std.specs.Prelude.{ℕ, Some, replicate}
use Rattle.vortex_array_types.specs.Row.{Column}
use Rattle.vortex_array_types.specs.declared.types.DType.{DType}
use Rattle.vortex_array_types.specs.declared.scalar.Value.{Value}

-- a column of so many rows that are all this value
abbrev pub repeated : DType → Value → ℕ → Column
repeated t v n = record { dtype = t; rows = replicate n (Some v) }
