-- The order of values of one type, and the comparisons by it.
use Rattle.std.specs.Prelude.{Bool, false, Option, Some, None}
use Rattle.std.specs.declared.cmp.Ordering.{Ordering}
use Rattle.std.specs.declared.cmp.Ordering.TheVariants.{Less, Equal, Greater}
use Rattle.std.specs.Ordering.{is_eq, is_ne, is_lt, is_le, is_gt, is_ge, nat_cmp, int_cmp, bool_cmp}
use Rattle.std.specs.Cmp.Lexicographic.{slice_cmp}
use Rattle.vortex_array_types.specs.declared.scalar.Value.{Value}
use Rattle.vortex_array_types.specs.declared.scalar.Value.TheVariants.{Bool as Truth, Int, Decimal, Utf8, Binary}
use Rattle.vortex_buffer.specs.declared.compare_operator.CompareOperator.{CompareOperator}
use Rattle.vortex_buffer.specs.declared.compare_operator.CompareOperator.TheVariants.{Eq, NotEq, Gt, Gte, Lt, Lte}

-- numbers by size, false before true, texts and bytes by their bytes; values of two kinds have no order
abbrev pub value_cmp : Value → Value → Option Ordering
value_cmp (Truth a) (Truth b) = Some (bool_cmp a b)
value_cmp (Int a) (Int b) = Some (int_cmp a b)
value_cmp (Decimal a) (Decimal b) = Some (int_cmp a b)
value_cmp (Utf8 a) (Utf8 b) = Some (slice_cmp nat_cmp a b)
value_cmp (Binary a) (Binary b) = Some (slice_cmp nat_cmp a b)
value_cmp _ _ = None

-- null below every value
abbrev pub row_cmp : Option Value → Option Value → Option Ordering
row_cmp None None = Some Equal
row_cmp None (Some b) = Some Less
row_cmp (Some a) None = Some Greater
row_cmp (Some a) (Some b) = value_cmp a b

-- the operator holds of two values that stand so
abbrev pub accepts : CompareOperator → Ordering → Bool
accepts Eq = is_eq
accepts NotEq = is_ne
accepts Gt = is_gt
accepts Gte = is_ge
accepts Lt = is_lt
accepts Lte = is_le

-- the operator holds of two values; none holds of values of two kinds
abbrev pub compares : CompareOperator → Value → Value → Bool
compares operator a b = accepted (value_cmp a b)
  where
    accepted : Option Ordering → Bool
    accepted None = false
    accepted (Some o) = accepts operator o
