-- An operator turned round.
use Rattle.std.specs.Prelude.{◌≡◌}
use Rattle.vortex_buffer.specs.declared.compare_operator.CompareOperator.{CompareOperator}
use Rattle.vortex_buffer.specs.declared.compare_operator.CompareOperator.TheVariants.{Eq, NotEq, Gt, Gte, Lt, Lte}
use Rattle.vortex_array_types.specs.Row.{Column}
use Rattle.vortex_array_kinds.specs.Truths.{compared}

-- less and greater change places
abbrev pub turned : CompareOperator → CompareOperator
turned Eq = Eq
turned NotEq = NotEq
turned Gt = Lt
turned Gte = Lte
turned Lt = Gt
turned Lte = Gte

-- a comparison is the one of the sides changed by the other operator
abbrev pub TurnedRound : CompareOperator → CompareOperator → Type 0
TurnedRound operator other = (a b : Column) → compared other b a ≡ compared operator a b
