use Rattle.std.specs.Prelude.{ℕ, ◌^◌, ℤ, pos, ◌+ℤ◌, ◌*ℤ◌, Bool, not, int_lt, int_le}
use Rattle.std.specs.Ordering.{int_eq}
use Rattle.vortex_buffer.specs.declared.compare_operator.CompareOperator.{CompareOperator}
use Rattle.vortex_buffer.specs.declared.compare_operator.CompareOperator.TheVariants.{Eq, NotEq, Gt, Gte, Lt, Lte}

-- whether an operator holds between two numbers
abbrev pub compares : CompareOperator → ℤ → ℤ → Bool
compares Eq x y = int_eq x y
compares NotEq x y = not (int_eq x y)
compares Gt x y = int_lt y x
compares Gte x y = int_le y x
compares Lt x y = int_lt x y
compares Lte x y = int_le x y

-- the number that a signed word above an unsigned one stands for
abbrev pub pair_number : ℤ → ℕ → ℤ
pair_number high low = (high *ℤ pos (2 ^ 64)) +ℤ pos low
