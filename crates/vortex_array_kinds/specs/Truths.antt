-- Columns of truth values, and what calls of three values answer, by rows.
use Rattle.std.specs.Prelude.{◌≡◌, ℕ, Bool, false, not, ◌&&◌, IsTrue, List, map, Option, Some, None, option_map, option_and_then}
use Rattle.std.specs.Simd.Lanes.{zip2}
use Rattle.vortex_buffer.specs.declared.compare_operator.CompareOperator.{CompareOperator}
use Rattle.vortex_array_types.specs.declared.types.Nullability.{Nullability}
use Rattle.vortex_array_types.specs.declared.types.Nullability.TheVariants.{NonNullable, Nullable}
use Rattle.vortex_array_types.specs.declared.types.DType.TheVariants as dtype
use Rattle.vortex_array_types.specs.declared.scalar.Value.{Value}
use Rattle.vortex_array_types.specs.declared.scalar.Value.TheVariants as value
use Rattle.vortex_array_types.specs.declared.filter.BetweenOptions.{BetweenOptions}
use Rattle.vortex_array_types.specs.Order.{compares}
use Rattle.vortex_array_types.specs.Row.{Column, nullability}
use Rattle.vortex_array_types.specs.Truth.{and3, or3, both, all_three, is_like, lies_between, truth_value}
use Rattle.vortex_array_kinds.specs.Validities.{is_as_long, nullability_of, valid_bits}
use Rattle.vortex_array_kinds.specs.declared.validity.Validity.{Validity}

-- nullable where one is
abbrev pub either : Nullability → Nullability → Nullability
either NonNullable n = n
either Nullable n = Nullable

-- an answer as a row
abbrev pub truth_row : Option Bool → Option Value
truth_row = option_map (λ b. value.Bool b)

-- a row of truth values as an answer: true, false or null
abbrev pub answer_in : Option Value → Option Bool
answer_in = option_and_then truth_value

-- a column of truth values with these answers
abbrev pub truths : Nullability → List (Option Bool) → Column
truths n given = record { dtype = dtype.Bool n; rows = map truth_row given }

-- the rows of a column of truth values as answers
abbrev pub answers : Column → List (Option Bool)
answers c = map answer_in c.rows

-- nullable where one of two columns is
abbrev pub either_column : Column → Column → Nullability
either_column a b = either (nullability a.dtype) (nullability b.dtype)

-- row by row, whether the operator holds, and null where a row is null
abbrev pub compared : CompareOperator → Column → Column → Column
compared operator a b = truths (either_column a b) (zip2 (both (compares operator)) a.rows b.rows)

-- row by row, whether the value lies between its bounds, and null where a row of the three is null
abbrev pub bounded : BetweenOptions → Column → Column → Column → Column
bounded options x lower upper = truths (either (either_column x lower) (nullability upper.dtype)) (zip2 (λ test z. test z) (zip2 (all_three (lies_between options)) x.rows lower.rows) upper.rows)

-- row by row, whether the text matches the pattern, and null where a row is null
abbrev pub liked : Column → Column → Column
liked a pattern = truths (either_column a pattern) (zip2 (both is_like) a.rows pattern.rows)

-- row by row, the conjunction in three values
abbrev pub joined_by_and : Column → Column → Column
joined_by_and a b = truths (either_column a b) (zip2 and3 (answers a) (answers b))

-- row by row, the disjunction in three values
abbrev pub joined_by_or : Column → Column → Column
joined_by_or a b = truths (either_column a b) (zip2 or3 (answers a) (answers b))

-- row by row, the negation; null stays null
abbrev pub negated : Column → Column
negated a = truths (nullability a.dtype) (map (option_map not) (answers a))

-- whether both answers are true, and null where one of them is null
abbrev pub both_true : Option Bool → Option Bool → Option Bool
both_true p q = option_and_then (λ a. option_map (λ b. a && b) q) p

-- row by row, whether both are true, and null where a row is null
abbrev pub joined_strictly : Column → Column → Column
joined_strictly a b = truths (either_column a b) (zip2 both_true (answers a) (answers b))

-- true, and not null
abbrev pub is_true : Option Bool → Bool
is_true None = false
is_true (Some b) = b

-- of so many rows those are not null that are not null in both, and the type has nulls where one of the two has
pub record BothValid (n : ℕ) (a b v : Validity) : Type 0 where
  pub long : IsTrue (is_as_long v n)
  pub present : valid_bits v n ≡ zip2 ◌&&◌ (valid_bits a n) (valid_bits b n)
  pub nulls : nullability_of v ≡ either (nullability_of a) (nullability_of b)
