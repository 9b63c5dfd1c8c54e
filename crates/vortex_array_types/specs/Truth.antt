-- The truth of a filter for one row, in three values: true, false, null.
use Rattle.std.specs.Prelude.{ℕ, List, Bool, true, false, not, ◌&&◌, Option, Some, None, is_none, option_map, option_and_then}
use Rattle.vortex_array_types.specs.declared.scalar.Value.{Value}
use Rattle.vortex_array_types.specs.declared.scalar.Value.TheVariants as value
use Rattle.vortex_buffer.specs.declared.compare_operator.CompareOperator.{CompareOperator}
use Rattle.vortex_buffer.specs.declared.compare_operator.CompareOperator.TheVariants.{Gt, Gte, Lt, Lte}
use Rattle.vortex_array_types.specs.declared.filter.StrictComparison.{StrictComparison}
use Rattle.vortex_array_types.specs.declared.filter.StrictComparison.TheVariants.{Strict, NonStrict}
use Rattle.vortex_array_types.specs.declared.filter.BetweenOptions.{BetweenOptions}
use Rattle.vortex_array_types.specs.declared.filter.Operand.{Operand}
use Rattle.vortex_array_types.specs.declared.filter.Operand.TheVariants.{Column, Constant}
use Rattle.vortex_array_types.specs.declared.filter.Filter.{Filter, fold-Filter}
use Rattle.vortex_array_types.specs.declared.filter.Filter.TheOpen.{Filter-F}
use Rattle.vortex_array_types.specs.Order.{compares}
use Rattle.vortex_array_types.specs.Matches.{matches}

-- a row gives a value or null for each name
abbrev pub Cells : Type 0
Cells = List ℕ → Option Value

-- the row's value in the column, or the constant
abbrev pub operand_value : Cells → Operand → Option Value
operand_value row (Column name) = row name
operand_value row (Constant scalar) = scalar.value

-- null where a value is null
abbrev pub both : (Value → Value → Bool) → Option Value → Option Value → Option Bool
both test x y = option_and_then (λ a. option_map (test a) y) x

-- null where any of three values is null
abbrev pub all_three : (Value → Value → Value → Bool) → Option Value → Option Value → Option Value → Option Bool
all_three test x y z = option_and_then (λ a. both (test a) y z) x

-- how a value is compared with its lower bound
abbrev pub lower_operator : StrictComparison → CompareOperator
lower_operator Strict = Gt
lower_operator NonStrict = Gte

-- how a value is compared with its upper bound
abbrev pub upper_operator : StrictComparison → CompareOperator
upper_operator Strict = Lt
upper_operator NonStrict = Lte

-- both comparisons, each strict as its option says
abbrev pub lies_between : BetweenOptions → Value → Value → Value → Bool
lies_between options x lower upper = compares (lower_operator options.lower_strict) x lower && compares (upper_operator options.upper_strict) x upper

-- the text matches the pattern
abbrev pub is_like : Value → Value → Bool
is_like (value.Utf8 text) (value.Utf8 pattern) = matches pattern text
is_like _ _ = false

-- the truth value itself
abbrev pub truth_value : Value → Option Bool
truth_value (value.Bool b) = Some b
truth_value _ = None

-- false where a side is false, else null where a side is null, else true
abbrev pub and3 : Option Bool → Option Bool → Option Bool
and3 (Some false) q = Some false
and3 (Some true) q = q
and3 None (Some false) = Some false
and3 None (Some true) = None
and3 None None = None

-- true where a side is true, else null where a side is null, else false
abbrev pub or3 : Option Bool → Option Bool → Option Bool
or3 (Some true) q = Some true
or3 (Some false) q = q
or3 None (Some true) = Some true
or3 None (Some false) = None
or3 None None = None

-- one level, with the truth of each filter inside
abbrev pub truth_step : Cells → Filter-F (Option Bool) → Option Bool
truth_step row (Filter-F.Truth x) = option_and_then truth_value (operand_value row x)
truth_step row (Filter-F.Compare operator x y) = both (compares operator) (operand_value row x) (operand_value row y)
truth_step row (Filter-F.Between options x lower upper) = all_three (lies_between options) (operand_value row x) (operand_value row lower) (operand_value row upper)
truth_step row (Filter-F.Like x pattern) = both is_like (operand_value row x) (operand_value row pattern)
truth_step row (Filter-F.IsNull x) = Some (is_none (operand_value row x))
truth_step row (Filter-F.Not f) = option_map not f
truth_step row (Filter-F.And f g) = and3 f g
truth_step row (Filter-F.Or f g) = or3 f g

-- the truth of a filter for a row
abbrev pub truth : Cells → Filter → Option Bool
truth row = fold-Filter (Option Bool) (truth_step row)

-- the filter is true of the row, or there is none
abbrev pub keeps : Option Filter → Cells → Bool
keeps None row = true
keeps (Some filter) row = is_true (truth row filter)
  where
    is_true : Option Bool → Bool
    is_true (Some b) = b
    is_true None = false
