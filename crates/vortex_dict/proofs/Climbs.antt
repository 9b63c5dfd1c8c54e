-- Rows of a dictionary whose codes and values ascend.
use Rattle.std.proofs.Common.{ℕ, zero, suc, ◌+◌, ◌-◌, ◌<◌, ◌≤◌, ◌≡◌, true, false, List, length, get_or, map, refl, sym, ap, subst, ◌∙◌, arith, Option, Some, None, add-zero}
use Rattle.std.specs.Prelude.{pos, IsTrue, All, ◌<ℤ◌}
use Rattle.std.specs.declared.cmp.Ordering.{Ordering}
use Rattle.std.specs.declared.cmp.Ordering.TheVariants.{Less, Equal, Greater}
use Rattle.std.specs.Ordering.{is_le, is_lt, int_cmp, MatchOrdering}
use Rattle.std.specs.Cmp.{IsTotalOrder, bool_cmp_total}
use Rattle.std.proofs.lemmas.Bool.{false≢true}
use Rattle.std.proofs.lemmas.Cmp.{int_ranked, int_cmp_total, nat_list_cmp_total}
use Rattle.std.proofs.lemmas.Int.{ints}
use Rattle.std.proofs.lemmas.List.{get_or-map, length-map}
use Rattle.vortex_array_types.specs.declared.scalar.Value.{Value}
use Rattle.vortex_array_types.specs.declared.scalar.Value.TheVariants as value
use Rattle.vortex_array_select.specs.Selected.{IndexBelow, row_at}
use Rattle.vortex_array_order.specs.InOrder.{IsSorted, IsStrictlySorted, at_most, below}
use Rattle.vortex_array_order.proofs.OrderLaws.{at_most-itself, at_most-trans}
use Rattle.vortex_dict.specs.InOrder.{AtMostOneNull, BeginWithNulls}

-- the order of numbers from 0 on
pos_le : (m n : ℕ) → is_le (int_cmp (pos m) (pos n)) ≡ true → m ≤ n
pos_le m n h = of_order (int_cmp (pos m) (pos n)) (int_ranked (pos m) (pos n) (int_cmp (pos m) (pos n)) refl) h
  where
    of_order : (o : Ordering) → MatchOrdering o (pos m <ℤ pos n) (pos m ≡ pos n) (pos n <ℤ pos m) → is_le o ≡ true → m ≤ n
    of_order Less r h = omega (arith, ints, r)
    of_order Equal r h = omega (arith, ints, r)
    of_order Greater r h = absurd (false≢true h)

pos_lt : (m n : ℕ) → is_lt (int_cmp (pos m) (pos n)) ≡ true → m < n
pos_lt m n h = of_order (int_cmp (pos m) (pos n)) (int_ranked (pos m) (pos n) (int_cmp (pos m) (pos n)) refl) h
  where
    of_order : (o : Ordering) → MatchOrdering o (pos m <ℤ pos n) (pos m ≡ pos n) (pos n <ℤ pos m) → is_lt o ≡ true → m < n
    of_order Less r h = omega (arith, ints, r)
    of_order Equal r h = absurd (false≢true h)
    of_order Greater r h = absurd (false≢true h)

-- values that ascend do so from one place to any further one
climbs : (vs : List (Option Value)) → IsSorted vs → (m d : ℕ) → m + d < length vs → IsTrue (at_most (get_or vs m None) (get_or vs (m + d) None))
climbs vs h m zero l = rw (add-zero m) (at_most-itself (get_or vs m None))
climbs vs h m (suc d) l =
    let next : m + d + 1 ≡ m + suc d = omega arith in
    let before : m + d < length vs = omega (arith, l) in
    let inside : m + d + 1 < length vs = omega (arith, l) in
    subst (λ k. IsTrue (at_most (get_or vs m None) (get_or vs k None))) next
    (at_most-trans (get_or vs m None) (get_or vs (m + d) None) (get_or vs (m + d + 1) None) (climbs vs h m d before) (h (m + d) inside))

none_first : (row : Option Value) → IsTrue (at_most None row)
none_first None = refl
none_first (Some v) = refl

-- codes in order name rows in order
named_climb : (vs : List (Option Value)) → IsSorted vs → (a b : Option Value) → IndexBelow (length vs) a → IndexBelow (length vs) b → IsTrue (at_most a b) → IsTrue (at_most (row_at vs a) (row_at vs b))
named_climb vs h None b i j l = none_first (row_at vs b)
named_climb vs h (Some (value.Int (pos m))) None i j l = absurd (false≢true l)
named_climb vs h (Some (value.Int (pos m))) (Some (value.Int (pos n))) i j l =
    let order : m ≤ n = pos_le m n l in
    let there : m + (n - m) ≡ n = omega (arith, order) in
    let inside : m + (n - m) < length vs = omega (arith, j, there) in
    subst (λ k. IsTrue (at_most (get_or vs m None) (get_or vs k None))) there (climbs vs h m (n - m) inside)
named_climb vs h (Some (value.Int (pos m))) b i j l = absurd j
named_climb vs h a b i j l = absurd i

-- so rows ascend where codes and values do
pub sorted-decoded : (cs vs : List (Option Value)) → All (IndexBelow (length vs)) cs → IsSorted cs → IsSorted vs → IsSorted (map (row_at vs) cs)
sorted-decoded cs vs all codes values = λ i l.
    let inside : i + 1 < length cs = omega (arith, l, length-map cs (row_at vs)) in
    let before : i < length cs = omega (arith, inside) in
    let here = get_or-map (row_at vs) cs i None None before in
    let next = get_or-map (row_at vs) cs (i + 1) None None inside in
    rw (here, next) (named_climb vs values (get_or cs i None) (get_or cs (i + 1) None) (all i None before) (all (i + 1) None inside) (codes i inside))

is_less : (o : Ordering) → is_lt o ≡ true → o ≡ Less
is_less Less h = refl
is_less Equal h = absurd (false≢true h)
is_less Greater h = absurd (false≢true h)

by_three : {X : Type 0} {cmp : X → X → Ordering} → IsTotalOrder cmp → (a b c : X) → is_lt (cmp a b) ≡ true → is_lt (cmp b c) ≡ true → is_lt (cmp a c) ≡ true
by_three {cmp = cmp} total a b c h k = ap is_lt (total.trans a b c (is_less (cmp a b) h) (is_less (cmp b c) k))

-- a row below another is below each row above that
below-trans : (a b c : Option Value) → IsTrue (below a b) → IsTrue (below b c) → IsTrue (below a c)
below-trans None None None h k = absurd (false≢true h)
below-trans None (Some b) None h k = absurd (false≢true k)
below-trans None b (Some c) h k = refl
below-trans (Some (value.Bool a)) (Some (value.Bool b)) (Some (value.Bool c)) h k = by_three bool_cmp_total a b c h k
below-trans (Some (value.Int a)) (Some (value.Int b)) (Some (value.Int c)) h k = by_three int_cmp_total a b c h k
below-trans (Some (value.Decimal a)) (Some (value.Decimal b)) (Some (value.Decimal c)) h k = by_three int_cmp_total a b c h k
below-trans (Some (value.Utf8 a)) (Some (value.Utf8 b)) (Some (value.Utf8 c)) h k = by_three nat_list_cmp_total a b c h k
below-trans (Some (value.Binary a)) (Some (value.Binary b)) (Some (value.Binary c)) h k = by_three nat_list_cmp_total a b c h k
below-trans a b c h k = cc

-- values that ascend strictly do so from one place to any further one
climbs_strictly : (vs : List (Option Value)) → IsStrictlySorted vs → (m d : ℕ) → m + d + 1 < length vs → IsTrue (below (get_or vs m None) (get_or vs (m + d + 1) None))
climbs_strictly vs h m zero l =
    let first : m + 1 ≡ m + zero + 1 = omega arith in
    let inside : m + 1 < length vs = omega (arith, l) in
    subst (λ k. IsTrue (below (get_or vs m None) (get_or vs k None))) first (h m inside)
climbs_strictly vs h m (suc d) l =
    let next : m + d + 1 + 1 ≡ m + suc d + 1 = omega arith in
    let before : m + d + 1 < length vs = omega (arith, l) in
    let inside : m + d + 1 + 1 < length vs = omega (arith, l) in
    subst (λ k. IsTrue (below (get_or vs m None) (get_or vs k None))) next
    (below-trans (get_or vs m None) (get_or vs (m + d + 1) None) (get_or vs (m + d + 1 + 1) None) (climbs_strictly vs h m d before) (h (m + d + 1) inside))

none_below : (row : Option Value) → (row ≡ None → ⊥) → IsTrue (below None row)
none_below None apart = absurd (apart refl)
none_below (Some v) apart = refl

named_below : (vs : List (Option Value)) → IsStrictlySorted vs → (a b : Option Value) → IndexBelow (length vs) a → IndexBelow (length vs) b → IsTrue (below a b) → (row_at vs a ≡ None → row_at vs b ≡ None → ⊥) → IsTrue (below (row_at vs a) (row_at vs b))
named_below vs h None b i j l apart = none_below (row_at vs b) (apart refl)
named_below vs h (Some (value.Int (pos m))) None i j l apart = absurd (false≢true l)
named_below vs h (Some (value.Int (pos m))) (Some (value.Int (pos n))) i j l apart =
    let order : m < n = pos_lt m n l in
    let there : m + (n - m - 1) + 1 ≡ n = omega (arith, order) in
    let inside : m + (n - m - 1) + 1 < length vs = omega (arith, j, there) in
    subst (λ k. IsTrue (below (get_or vs m None) (get_or vs k None))) there (climbs_strictly vs h m (n - m - 1) inside)
named_below vs h (Some (value.Int (pos m))) b i j l apart = absurd j
named_below vs h a b i j l apart = absurd i

-- rows ascend strictly where codes and values do, and no two rows are null
pub strict-decoded : (cs vs : List (Option Value)) → All (IndexBelow (length vs)) cs → IsStrictlySorted cs → IsStrictlySorted vs → AtMostOneNull (map (row_at vs) cs) → IsStrictlySorted (map (row_at vs) cs)
strict-decoded cs vs all codes values one = λ i l.
    let inside : i + 1 < length cs = omega (arith, l, length-map cs (row_at vs)) in
    let before : i < length cs = omega (arith, inside) in
    let early : i < length (map (row_at vs) cs) = omega (arith, l) in
    let here = get_or-map (row_at vs) cs i None None before in
    let next = get_or-map (row_at vs) cs (i + 1) None None inside in
    rw (here, next)
    (named_below vs values (get_or cs i None) (get_or cs (i + 1) None) (all i None before) (all (i + 1) None inside) (codes i inside)
    (λ p q. let same : i ≡ i + 1 = one i (i + 1) early l (here ∙ p) (next ∙ q) in omega (arith, same)))

never_below : (row : Option Value) → IsTrue (below row None) → ⊥
never_below None h = false≢true h
never_below (Some v) h = false≢true h

-- a null among values that ascend strictly is the first
null_first : (vs : List (Option Value)) → IsStrictlySorted vs → (p : ℕ) → p < length vs → get_or vs p None ≡ None → p ≡ 0
null_first vs h zero l e = refl
null_first vs h (suc p) l e =
    let inside : p + 1 < length vs = omega (arith, l) in
    let same : suc p ≡ p + 1 = omega arith in
    absurd (never_below (get_or vs p None) (subst (λ row. IsTrue (below (get_or vs p None) row)) (ap (λ k. get_or vs k None) (sym same) ∙ e) (h p inside)))

-- below the code 0 is null alone
below_zero : (n : ℕ) (c : Option Value) → IndexBelow n c → IsTrue (below c (Some (value.Int (pos 0)))) → c ≡ None
below_zero n None i h = refl
below_zero n (Some (value.Int (pos m))) i h = absurd (omega (arith, pos_lt m 0 h))
below_zero n c i h = absurd i

-- the code of a null row is null or the place 0
null_code : (vs : List (Option Value)) → IsStrictlySorted vs → (c : Option Value) → IndexBelow (length vs) c → row_at vs c ≡ None → (c ≡ None → ⊥) → c ≡ Some (value.Int (pos 0))
null_code vs h None i e some = absurd (some refl)
null_code vs h (Some (value.Int (pos p))) i e some = ap (λ k. Some (value.Int (pos k))) (null_first vs h p i e)
null_code vs h c i e some = absurd i

-- where a row behind another is null, the first two rows are
second-null : (cs vs : List (Option Value)) → All (IndexBelow (length vs)) cs → IsStrictlySorted cs → IsStrictlySorted vs → (i : ℕ) → i + 1 < length (map (row_at vs) cs) → get_or (map (row_at vs) cs) (i + 1) None ≡ None → BeginWithNulls (map (row_at vs) cs)
second-null cs vs all codes values i l e =
    let inside : i + 1 < length cs = omega (arith, l, length-map cs (row_at vs)) in
    let before : i < length cs = omega (arith, inside) in
    let step = codes i inside in
    let next = get_or-map (row_at vs) cs (i + 1) None None inside in
    let code : get_or cs (i + 1) None ≡ Some (value.Int (pos 0)) =
    null_code vs values (get_or cs (i + 1) None) (all (i + 1) None inside) (sym next ∙ e) (λ n. never_below (get_or cs i None) (subst (λ c. IsTrue (below (get_or cs i None) c)) n step)) in
    let none : get_or cs i None ≡ None = below_zero (length vs) (get_or cs i None) (all i None before) (subst (λ c. IsTrue (below (get_or cs i None) c)) code step) in
    let first : i ≡ 0 = null_first cs codes i before none in
    let here = get_or-map (row_at vs) cs i None None before in
    record {
      two = omega (arith, l, first);
      first = subst (λ k. get_or (map (row_at vs) cs) k None ≡ None) first (here ∙ ap (row_at vs) none);
      second = subst (λ k. get_or (map (row_at vs) cs) (k + 1) None ≡ None) first e;
    }

null_at_front : (cs vs : List (Option Value)) → All (IndexBelow (length vs)) cs → IsStrictlySorted cs → IsStrictlySorted vs → (BeginWithNulls (map (row_at vs) cs) → ⊥) → (i : ℕ) → i < length (map (row_at vs) cs) → get_or (map (row_at vs) cs) i None ≡ None → i ≡ 0
null_at_front cs vs all codes values apart zero l e = refl
null_at_front cs vs all codes values apart (suc i) l e =
    let same : suc i ≡ i + 1 = omega arith in
    absurd (apart (second-null cs vs all codes values i (omega (arith, l)) (ap (λ k. get_or (map (row_at vs) cs) k None) (sym same) ∙ e)))

-- so at most one row is null unless the first two are
pub one-null : (cs vs : List (Option Value)) → All (IndexBelow (length vs)) cs → IsStrictlySorted cs → IsStrictlySorted vs → (BeginWithNulls (map (row_at vs) cs) → ⊥) → AtMostOneNull (map (row_at vs) cs)
one-null cs vs all codes values apart = λ i j l m p q. null_at_front cs vs all codes values apart i l p ∙ sym (null_at_front cs vs all codes values apart j m q)

-- and not where they are
pub two-nulls : (rows : List (Option Value)) → AtMostOneNull rows → BeginWithNulls rows → ⊥
two-nulls rows one h =
    let two : 1 < length rows = h.two in
    let some : 0 < length rows = omega (arith, two) in
    let same : 0 ≡ 1 = one 0 1 some two h.first h.second in
    omega (arith, same)
