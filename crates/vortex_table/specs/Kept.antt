-- Which numbers a comparison keeps.
use Rattle.std.specs.Prelude.{ℕ, pos, Bool, true, Option, Some, None}
use Rattle.vortex_array_types.specs.Order.{compares}
use Rattle.vortex_array_types.specs.declared.scalar.Value.TheVariants.{Int}
use Rattle.vortex_table.specs.declared.built.Comparison.{Comparison}

-- whether the number passes the comparison, or there is none
abbrev pub passes : Option Comparison → ℕ → Bool
passes None number = true
passes (Some comparison) number = compares comparison.operator (Int (pos number)) (Int (pos comparison.constant))
