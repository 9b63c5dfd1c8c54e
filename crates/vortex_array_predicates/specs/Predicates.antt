-- Tests of values, and their truths.
use Rattle.std.specs.Prelude.{ℕ, List, Bool, false, Option, Some, None}
use Rattle.vortex_array_types.specs.declared.scalar.Value.{Value}
use Rattle.vortex_array_types.specs.declared.scalar.Value.TheVariants.{Utf8}
use Rattle.vortex_buffer.specs.declared.compare_operator.CompareOperator.{CompareOperator}
use Rattle.vortex_array_types.specs.declared.filter.BetweenOptions.{BetweenOptions}
use Rattle.vortex_array_types.specs.Order.{compares}
use Rattle.vortex_array_types.specs.Row.{TypedRow}
use Rattle.vortex_array_types.specs.Truth.{is_like, lies_between}

-- a comparison with a constant, and how often it was asked
pub record Comparison : Type 0 where
  pub operator : CompareOperator
  pub constant : TypedRow
  pub asked : ℕ

-- two bounds, and how often they were asked
pub record Bounds : Type 0 where
  pub options : BetweenOptions
  pub lower : TypedRow
  pub upper : TypedRow
  pub asked : ℕ

-- a pattern, and how often it was asked
pub record Likeness : Type 0 where
  pub pattern : List ℕ
  pub asked : ℕ

-- the value stands so to the constant; none does to null
abbrev pub compares_to : CompareOperator → Option Value → Value → Bool
compares_to operator None v = false
compares_to operator (Some constant) v = compares operator v constant

-- the value lies between the constants, each strict or not; none does where one is null
abbrev pub lies_within : BetweenOptions → Option Value → Option Value → Value → Bool
lies_within options (Some lower) (Some upper) v = lies_between options v lower upper
lies_within options _ _ v = false

-- the value is a text that matches the pattern
abbrev pub matches_text : List ℕ → Value → Bool
matches_text pattern v = is_like v (Utf8 pattern)
