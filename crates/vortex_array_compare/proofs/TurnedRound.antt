-- Comparisons turned round.
use Rattle.std.proofs.Common.{◌≡◌, refl, ap, ◌∙◌, Option, Some, None}
use Rattle.std.specs.Prelude.{option_map}
use Rattle.std.specs.Ordering.{ordering_reverse}
use Rattle.std.specs.declared.cmp.Ordering.{Ordering}
use Rattle.std.specs.declared.cmp.Ordering.TheVariants.{Less, Equal, Greater}
use Rattle.std.specs.Cmp.{bool_cmp_total}
use Rattle.std.proofs.lemmas.Cmp.{int_cmp_total, nat_list_cmp_total}
use Rattle.vortex_buffer.specs.declared.compare_operator.CompareOperator.{CompareOperator}
use Rattle.vortex_buffer.specs.declared.compare_operator.CompareOperator.TheVariants.{Eq, NotEq, Gt, Gte, Lt, Lte}
use Rattle.vortex_array_types.specs.Order.{accepts, compares, value_cmp}
use Rattle.vortex_array_types.specs.declared.scalar.Value.{Value}
use Rattle.vortex_array_types.specs.declared.scalar.Value.TheVariants as value
use Rattle.vortex_array_compare.specs.Turned.{TurnedRound, turned}
use Rattle.vortex_array_compare.proofs.Tested.{tested-turned}

accepts_turned : (operator : CompareOperator) (o : Ordering) → accepts (turned operator) (ordering_reverse o) ≡ accepts operator o
accepts_turned Eq Less = refl
accepts_turned Eq Equal = refl
accepts_turned Eq Greater = refl
accepts_turned NotEq Less = refl
accepts_turned NotEq Equal = refl
accepts_turned NotEq Greater = refl
accepts_turned Gt Less = refl
accepts_turned Gt Equal = refl
accepts_turned Gt Greater = refl
accepts_turned Gte Less = refl
accepts_turned Gte Equal = refl
accepts_turned Gte Greater = refl
accepts_turned Lt Less = refl
accepts_turned Lt Equal = refl
accepts_turned Lt Greater = refl
accepts_turned Lte Less = refl
accepts_turned Lte Equal = refl
accepts_turned Lte Greater = refl

-- values the other way round stand the other way round
cmp_turned : (a b : Value) → value_cmp b a ≡ option_map ordering_reverse (value_cmp a b)
cmp_turned (value.Bool a) (value.Bool b) = ap (λ o. Some o) (bool_cmp_total.antisymm b a)
cmp_turned (value.Int a) (value.Int b) = ap (λ o. Some o) (int_cmp_total.antisymm b a)
cmp_turned (value.Decimal a) (value.Decimal b) = ap (λ o. Some o) (int_cmp_total.antisymm b a)
cmp_turned (value.Utf8 a) (value.Utf8 b) = ap (λ o. Some o) (nat_list_cmp_total.antisymm b a)
cmp_turned (value.Binary a) (value.Binary b) = ap (λ o. Some o) (nat_list_cmp_total.antisymm b a)
cmp_turned a b = refl

compares_at : (operator : CompareOperator) (a b : Value) (o : Option Ordering) → value_cmp a b ≡ o → compares (turned operator) b a ≡ compares operator a b
compares_at operator a b None e =
    let back : value_cmp b a ≡ None = cmp_turned a b ∙ ap (option_map ordering_reverse) e in
    rw (back, e) refl
compares_at operator a b (Some o) e =
    let back : value_cmp b a ≡ Some (ordering_reverse o) = cmp_turned a b ∙ ap (option_map ordering_reverse) e in
    rw (back, e) (accepts_turned operator o)

-- a comparison is the one of the sides changed by the operator turned round
pub turned_round : (operator : CompareOperator) → TurnedRound operator (turned operator)
turned_round operator = tested-turned (compares (turned operator)) (compares operator) (λ x y. compares_at operator x y (value_cmp x y) refl)
