-- The numbers that parts keep, one for each row, and what rows say of them.
use Rattle.std.specs.Prelude.{◌≡◌, ◌^◌, ℤ, pos, ◌+ℤ◌, ◌*ℤ◌, Bool, ◌&&◌, not, cond, int_le, IsTrue, List, [], ◌∷◌, replicate, Option, Some, None}
use Rattle.std.specs.Ordering.{int_cmp}
use Rattle.vortex_buffer.specs.declared.compare_operator.CompareOperator.{CompareOperator}
use Rattle.vortex_array_types.specs.Order.{accepts}
use Rattle.vortex_array_types.specs.Row.{in_signed}
use Rattle.vortex_array_types.specs.Truth.{lower_operator, upper_operator}
use Rattle.vortex_array_types.specs.declared.filter.BetweenOptions.{BetweenOptions}
use Rattle.vortex_array_types.specs.declared.scalar.Value.{Value}
use Rattle.vortex_array_types.specs.declared.scalar.Value.TheVariants.{Decimal}
use Rattle.vortex_array_kinds.specs.Kinds.{numbers_of}
use Rattle.vortex_array.specs.declared.arrays.Array.{Array}
use Rattle.vortex_array.specs.declared.arrays.Array.TheVariants.{Primitive, Constant}
use Rattle.vortex_array.specs.Single.{number_held}
use Rattle.vortex_decimal_byte_parts.specs.declared.interval.Interval.{Interval}

-- the numbers that a part keeps: that of a row that is not null, and any number elsewhere
abbrev pub part_numbers : Array → List ℤ
part_numbers (Primitive a) = numbers_of a.values
part_numbers (Constant k) = replicate k.len (number_held k.scalar.value)
part_numbers _ = []

-- the number of two parts, each a whole number
abbrev pub wide : ℤ → ℤ → ℤ
wide msp lower = (msp *ℤ pos (2 ^ 64)) +ℤ lower

-- the row is null, or the number as a value
abbrev pub Holds : (ℤ → Value) → Option Value → ℤ → Type 0
Holds as_value None n = Unit
Holds as_value (Some v) n = v ≡ as_value n

-- each item of a list, one by one
abbrev pub Each : {X : Type 0} → (X → Type 0) → List X → Type 0
Each P [] = Unit
Each P (x ∷ xs) = P x × Each P xs

-- what a test says of the number of a row, and null where the row is
abbrev pub asked_row : (ℤ → Bool) → Option Value → Option Bool
asked_row test (Some (Decimal n)) = Some (test n)
asked_row test _ = None

-- the number of a row has 128 bits
abbrev pub IsWideRow : Option Value → Type 0
IsWideRow (Some (Decimal n)) = IsTrue (in_signed 128 n)
IsWideRow _ = Unit

-- an answer where the row is not null
abbrev pub answer_if : Bool → Bool → Option Bool
answer_if present bit = cond present (Some bit) None

-- the number lies between two others, or is one of them
abbrev pub within : ℤ → ℤ → ℤ → Bool
within least greatest n = int_le least n && int_le n greatest

-- the number lies in the interval, or outside where that is asked for
abbrev pub lies_in : Interval → ℤ → Bool
lies_in i n = cond i.outside (not (within i.least i.greatest n)) (within i.least i.greatest n)

-- the numbers of 128 bits of which a test is true are those of the interval
abbrev pub IsIntervalOf : (ℤ → Bool) → Interval → Type 0
IsIntervalOf test i = (n : ℤ) → IsTrue (in_signed 128 n) → test n ≡ lies_in i n

-- the operator holds of a number and another
abbrev pub number_compares : CompareOperator → ℤ → ℤ → Bool
number_compares operator c n = accepts operator (int_cmp n c)

-- the number lies between two bounds, each of them left out where it is strict
abbrev pub number_between : BetweenOptions → ℤ → ℤ → ℤ → Bool
number_between options lower upper n = number_compares (lower_operator options.lower_strict) lower n && number_compares (upper_operator options.upper_strict) upper n
