-- The order of rows: rows that have an order are of one kind, and values of one kind have a total order.
use Rattle.std.proofs.Common.{ℕ, zero, suc, ◌<◌, ◌≡◌, true, false, List, [], ◌∷◌, length, get_or, refl, ap, ◌∙◌, arith, Bool, Option, Some, None}
use Rattle.std.specs.Prelude.{IsTrue}
use Rattle.std.specs.declared.cmp.Ordering.{Ordering}
use Rattle.std.specs.declared.cmp.Ordering.TheVariants.{Less, Equal, Greater}
use Rattle.std.specs.Ordering.{is_some_and, is_eq, is_lt, is_le, is_gt, ordering_reverse}
use Rattle.std.specs.Cmp.{IsTotalOrder, bool_cmp_total}
use Rattle.std.proofs.lemmas.Bool.{false≢true, true≢false}
use Rattle.std.proofs.lemmas.Cmp.{upto, tied_itself, int_cmp_total, nat_list_cmp_total}
use Rattle.std.proofs.lemmas.List.{get_or_default}
use Rattle.std.proofs.lemmas.Map.Lookups.{exact_bytes, exact_signed}
use Rattle.std.proofs.lemmas.Option.{same_Some}
use Rattle.vortex_array_types.specs.Order.{row_cmp}
use Rattle.vortex_array_types.specs.declared.scalar.Value.{Value}
use Rattle.vortex_array_types.specs.declared.scalar.Value.TheVariants.{Bool as Truth, Int, Decimal, Utf8, Binary}
use Rattle.vortex_array_order.specs.InOrder.{IsConstant, at_most}

le_not_gt : (o : Ordering) → is_le o ≡ true → is_gt o ≡ false
le_not_gt Less e = refl
le_not_gt Equal e = refl
le_not_gt Greater e = absurd (false≢true e)

not_gt_le : (o : Ordering) → is_gt o ≡ false → is_le o ≡ true
not_gt_le Less e = refl
not_gt_le Equal e = refl
not_gt_le Greater e = absurd (true≢false e)

not_lt_back : (o : Ordering) → is_lt o ≡ false → is_le (ordering_reverse o) ≡ true
not_lt_back Less e = absurd (true≢false e)
not_lt_back Equal e = refl
not_lt_back Greater e = refl

-- by three items of a total order
by_three : {X : Type 0} {cmp : X → X → Ordering} → IsTotalOrder cmp → (a b c : X) → is_le (cmp a b) ≡ true → is_le (cmp b c) ≡ true → is_le (cmp a c) ≡ true
by_three {cmp = cmp} total a b c h k = not_gt_le (cmp a c) (upto total a b c (le_not_gt (cmp a b) h) (le_not_gt (cmp b c) k))

-- and the other way round
by_two : {X : Type 0} {cmp : X → X → Ordering} → IsTotalOrder cmp → (a b : X) (o : Ordering) → Some (cmp a b) ≡ Some o → is_lt o ≡ false → is_le (cmp b a) ≡ true
by_two {cmp = cmp} total a b o h e = ap is_le (total.antisymm b a ∙ ap ordering_reverse (same_Some (cmp a b) o h)) ∙ not_lt_back o e

-- a row that is at most another is at most each row above that
pub at_most-trans : (a b c : Option Value) → IsTrue (at_most a b) → IsTrue (at_most b c) → IsTrue (at_most a c)
at_most-trans None b None h k = refl
at_most-trans None b (Some c) h k = refl
at_most-trans (Some (Truth a)) (Some (Truth b)) (Some (Truth c)) h k = by_three bool_cmp_total a b c h k
at_most-trans (Some (Int a)) (Some (Int b)) (Some (Int c)) h k = by_three int_cmp_total a b c h k
at_most-trans (Some (Decimal a)) (Some (Decimal b)) (Some (Decimal c)) h k = by_three int_cmp_total a b c h k
at_most-trans (Some (Utf8 a)) (Some (Utf8 b)) (Some (Utf8 c)) h k = by_three nat_list_cmp_total a b c h k
at_most-trans (Some (Binary a)) (Some (Binary b)) (Some (Binary c)) h k = by_three nat_list_cmp_total a b c h k
at_most-trans a b c h k = cc

-- what is not below another is at least it
pub turned : (a b : Option Value) (o : Ordering) → row_cmp a b ≡ Some o → is_lt o ≡ false → IsTrue (at_most b a)
turned (Some a) None o h e = refl
turned None None o h e = refl
turned None (Some b) o h e = absurd (true≢false (ap is_lt (same_Some Less o h) ∙ e))
turned (Some (Truth a)) (Some (Truth b)) o h e = by_two bool_cmp_total a b o h e
turned (Some (Int a)) (Some (Int b)) o h e = by_two int_cmp_total a b o h e
turned (Some (Decimal a)) (Some (Decimal b)) o h e = by_two int_cmp_total a b o h e
turned (Some (Utf8 a)) (Some (Utf8 b)) o h e = by_two nat_list_cmp_total a b o h e
turned (Some (Binary a)) (Some (Binary b)) o h e = by_two nat_list_cmp_total a b o h e
turned a b o h e = absurd (cc h)

exact_bool : (a b : Bool) → row_cmp (Some (Truth a)) (Some (Truth b)) ≡ Some Equal → a ≡ b
exact_bool true true h = refl
exact_bool false false h = refl
exact_bool a b h = absurd (cc h)

-- rows that stand equal are one
is-same : (a b : Option Value) → row_cmp a b ≡ Some Equal → a ≡ b
is-same None None h = refl
is-same None (Some b) h = absurd (cc h)
is-same (Some a) None h = absurd (cc h)
is-same (Some (Truth a)) (Some (Truth b)) h = ap (λ n. Some (Truth n)) (exact_bool a b h)
is-same (Some (Int a)) (Some (Int b)) h = ap (λ n. Some (Int n)) (exact_signed a b (same_Some _ _ h))
is-same (Some (Decimal a)) (Some (Decimal b)) h = ap (λ n. Some (Decimal n)) (exact_signed a b (same_Some _ _ h))
is-same (Some (Utf8 a)) (Some (Utf8 b)) h = ap (λ n. Some (Utf8 n)) (exact_bytes a b (same_Some _ _ h))
is-same (Some (Binary a)) (Some (Binary b)) h = ap (λ n. Some (Binary n)) (exact_bytes a b (same_Some _ _ h))
is-same a b h = absurd (cc h)

-- a row stands equal to itself
pub row-itself : (a : Option Value) → row_cmp a a ≡ Some Equal
row-itself None = refl
row-itself (Some (Truth true)) = refl
row-itself (Some (Truth false)) = refl
row-itself (Some (Int a)) = ap (λ o. Some o) (tied_itself int_cmp_total a)
row-itself (Some (Decimal a)) = ap (λ o. Some o) (tied_itself int_cmp_total a)
row-itself (Some (Utf8 a)) = ap (λ o. Some o) (tied_itself nat_list_cmp_total a)
row-itself (Some (Binary a)) = ap (λ o. Some o) (tied_itself nat_list_cmp_total a)

-- and is at most itself
pub at_most-itself : (a : Option Value) → IsTrue (at_most a a)
at_most-itself a = ap (λ x. is_some_and is_le x) (row-itself a)

-- what a test says of how two rows stand
pub answered : (test : Ordering → Bool) (a b : Option Value) (o : Ordering) (wanted : Bool) → row_cmp a b ≡ Some o → test o ≡ wanted → is_some_and test (row_cmp a b) ≡ wanted
answered test a b o wanted h e = ap (is_some_and test) h ∙ e

lt_le : (o : Ordering) → is_lt o ≡ true → is_le o ≡ true
lt_le Less e = refl
lt_le Equal e = absurd (false≢true e)
lt_le Greater e = absurd (false≢true e)

-- what is below another is at most it
pub below-at_most : (a b : Option Value) (o : Ordering) → row_cmp a b ≡ Some o → is_lt o ≡ true → IsTrue (at_most a b)
below-at_most a b o h e = answered is_le a b o true h (lt_le o e)

-- rows that are answered equal are one
pub equal-same : (a b : Option Value) → IsTrue (is_some_and is_eq (row_cmp a b)) → a ≡ b
equal-same a b h = by_order (row_cmp a b) refl h
  where
    by_order : (x : Option Ordering) → row_cmp a b ≡ x → is_some_and is_eq x ≡ true → a ≡ b
    by_order None e h = absurd (false≢true h)
    by_order (Some Less) e h = absurd (false≢true h)
    by_order (Some Equal) e h = is-same a b e
    by_order (Some Greater) e h = absurd (false≢true h)

-- a list whose rows are all the first one is constant
pub constant-rows : (rows : List (Option Value)) → 0 < length rows → ((k : ℕ) → k < length rows → get_or rows k None ≡ get_or rows 0 None) → IsConstant rows
constant-rows [] l h = absurd (omega arith)
constant-rows (row ∷ rows) l h = λ k d m. get_or_default rows k d None m ∙ h (suc k) (omega arith)

-- and the other way round
pub rows-constant : (rows : List (Option Value)) → IsConstant rows → (k : ℕ) → k < length rows → get_or rows k None ≡ get_or rows 0 None
rows-constant [] h k l = absurd h
rows-constant (row ∷ rows) h zero l = refl
rows-constant (row ∷ rows) h (suc k) l = h k None (omega arith)
