-- Rows of which the nulls come first, and rows of which a null stands behind a value.
use Rattle.std.proofs.Common.{ℕ, zero, suc, inl, inr, ◌<◌, ◌≤◌, ◌≡◌, ◌+◌, ◌-◌, ◌↔◌, true, false, Bool, List, [], ◌∷◌, length, get_or, map, refl, sym, subst, ap, ◌∙◌, arith, Option, Some, None}
use Rattle.std.specs.Prelude.{IsTrue, is_some, ◌⊎◌}
use Rattle.std.specs.Ordering.{is_some_and, is_eq}
use Rattle.std.proofs.lemmas.Bool.{cases_lt, false≢true, true≢false}
use Rattle.std.proofs.lemmas.List.{length-map, get_or-map}
use Rattle.vortex_array_types.specs.declared.scalar.Value.{Value}
use Rattle.vortex_array_order.specs.Asked.{Begins, Follow, Holds, stand}
use Rattle.vortex_array_order.specs.InOrder.{Ascends, IsConstant}
use Rattle.vortex_array_order.specs.Extremes.{IsFirstValue, NoneOf}
use Rattle.vortex_array_order.specs.Nulls.{NullBehind, NullsFirst}
use Rattle.vortex_array_order.specs.declared.order.RowOrder.{RowOrder}
use Rattle.vortex_array_order.specs.declared.order.RowOrder.TheVariants.{Constant, Sorted, StrictlySorted}
use Rattle.vortex_array_order.proofs.OrderLaws.{constant-rows, equal-same, row-itself, rows-constant}
use Rattle.vortex_array_order.proofs.ExtremeSteps.{is-none}

-- a row that is told to be null
null_told : (rows : List (Option Value)) (i : ℕ) → i < length rows → get_or (map is_some rows) i false ≡ false → get_or rows i None ≡ None
null_told rows i inside h = is-none (get_or rows i None) (sym (get_or-map is_some rows i None false inside) ∙ h)

-- the rows at the front are null
pub null-row : (rows : List (Option Value)) (n i : ℕ) → NullsFirst (map is_some rows) n → i < n → get_or rows i None ≡ None
null-row rows n i h l = null_told rows i (omega (arith, l, h.within, length-map rows is_some)) (h.null i l)

-- the rows behind them are values
pub value-row : (rows : List (Option Value)) (n i : ℕ) → NullsFirst (map is_some rows) n → n ≤ i → i < length rows → is_some (get_or rows i None) ≡ true
value-row rows n i h l inside = sym (get_or-map is_some rows i None false inside) ∙ h.value i l (omega (arith, inside, length-map rows is_some))

-- so none is a value where they are all rows
pub all-null : (rows : List (Option Value)) → NullsFirst (map is_some rows) (length rows) → NoneOf rows (length rows)
all-null rows h = record { null = λ j k. null-row rows (length rows) j h k }

-- and else the next is the first value
pub first-behind : (rows : List (Option Value)) (n : ℕ) → NullsFirst (map is_some rows) n → n < length rows → IsFirstValue rows n
first-behind rows n h l = record { within = l; none = λ j k. null-row rows n j h k; some = value-row rows n n h (omega arith) l }

-- so is the one before a null behind it
pub first-among : (rows : List (Option Value)) (n : ℕ) → NullBehind (map is_some rows) n → IsFirstValue rows n
first-among rows n b =
    let inside : n < length rows = omega (arith, b.behind, b.within, length-map rows is_some) in
    record { within = inside; none = λ j k. null_told rows j (omega (arith, inside, k)) (b.null j k); some = sym (get_or-map is_some rows n None false inside) ∙ b.value }

-- no row but a value stands behind a value
value_next : (order : RowOrder) (a b : Option Value) → is_some a ≡ true → IsTrue (stand order a b) → is_some b ≡ true
value_next order None b s h = absurd (false≢true s)
value_next order (Some a) (Some b) s h = refl
value_next Constant (Some a) None s h = absurd (false≢true h)
value_next Sorted (Some a) None s h = absurd (false≢true h)
value_next StrictlySorted (Some a) None s h = absurd (false≢true h)

-- so behind a value of rows in order all are values
values_behind : (order : RowOrder) (rows : List (Option Value)) (i d : ℕ) → Ascends (stand order) rows → i + d < length rows → is_some (get_or rows i None) ≡ true → is_some (get_or rows (i + d) None) ≡ true
values_behind order rows i zero h m s = let same : i ≡ i + 0 = omega arith in subst (λ k. is_some (get_or rows k None) ≡ true) same s
values_behind order rows i (suc d) h m s =
    let next : i + d + 1 ≡ i + suc d = omega arith in
    subst (λ k. is_some (get_or rows k None) ≡ true) next
    (value_next order (get_or rows (i + d) None) (get_or rows (i + d + 1) None) (values_behind order rows i d h (omega (arith, m)) s) (h (i + d) (omega (arith, m))))

-- each row stands to the next one as the order asks
ordered : (order : RowOrder) (rows : List (Option Value)) → Holds order rows → Ascends (stand order) rows
ordered Constant rows k = λ i l. rw (rows-constant rows k i (omega (arith, l)), rows-constant rows k (i + 1) l) (ap (is_some_and is_eq) (row-itself (get_or rows 0 None)))
ordered Sorted rows h = h
ordered StrictlySorted rows h = h

-- each row is the first one where each is the one before it
same_first : (rows : List (Option Value)) → Ascends (stand Constant) rows → (k : ℕ) → k < length rows → get_or rows k None ≡ get_or rows 0 None
same_first rows h zero l = refl
same_first rows h (suc k) l =
    let next : k + 1 ≡ suc k = omega arith in
    let before : get_or rows k None ≡ get_or rows (k + 1) None = equal-same (get_or rows k None) (get_or rows (k + 1) None) (h k (omega (arith, l))) in
    subst (λ j. get_or rows j None ≡ get_or rows 0 None) next (sym before ∙ same_first rows h k (omega (arith, l)))

-- and the other way round
from_ordered : (order : RowOrder) (rows : List (Option Value)) (n : ℕ) → Begins order n (length rows) → Ascends (stand order) rows → Holds order rows
from_ordered Constant rows n b h = constant-rows rows b.0 (same_first rows h)
from_ordered Sorted rows n b h = h
from_ordered StrictlySorted rows n b h = h

-- rows of which a null stands behind a value are in no order
pub in-no-order : (order : RowOrder) (rows : List (Option Value)) (n : ℕ) → NullBehind (map is_some rows) n → Holds order rows → ⊥
in-no-order order rows n b h =
    let inside : b.second < length rows = omega (arith, b.within, length-map rows is_some) in
    let apart : n + (b.second - n) ≡ b.second = omega (arith, b.behind) in
    let first : is_some (get_or rows n None) ≡ true = (first-among rows n b).some in
    let some = values_behind order rows n (b.second - n) (ordered order rows h) (omega (arith, apart, inside)) first in
    let second : is_some (get_or rows b.second None) ≡ true = subst (λ k. is_some (get_or rows k None) ≡ true) apart some in
    true≢false (sym second ∙ sym (get_or-map is_some rows b.second None false inside) ∙ b.unset)

-- a null stands so to a null, and to a value where it is the last of those that may begin
null_stands : (order : RowOrder) (a b : Option Value) (n m i : ℕ) → Begins order n m → i < n → i + 1 < m → a ≡ None → (n ≤ i + 1 → is_some b ≡ true) → (i + 1 < n → b ≡ None) → IsTrue (stand order a b)
null_stands Sorted a None n m i g l inside e value null = rw e refl
null_stands Sorted a (Some b) n m i g l inside e value null = rw e refl
null_stands StrictlySorted a None n m i g l inside e value null = absurd (false≢true (value (omega (arith, g, l))))
null_stands StrictlySorted a (Some b) n m i g l inside e value null = rw e refl
null_stands Constant a b n m i (some, inl none) l inside e value null = absurd (omega (arith, none, l))
null_stands Constant a b n m i (some, inr all) l inside e value null = rw (e, null (omega (arith, all, inside))) refl

-- the rows are in order where the nulls may begin and the values follow
pub follow-ordered : (order : RowOrder) (rows : List (Option Value)) (n : ℕ) → NullsFirst (map is_some rows) n → Begins order n (length rows) → Follow order rows n (length rows) ↔ Holds order rows
follow-ordered order rows n h g = (λ f. from_ordered order rows n g (λ i inside. by_place f i inside (cases_lt i n)), λ o i l inside. ordered order rows o i inside)
  where
    by_place : Follow order rows n (length rows) → (i : ℕ) → i + 1 < length rows → (i < n) ⊎ (n ≤ i) → IsTrue (stand order (get_or rows i None) (get_or rows (i + 1) None))
    by_place f i inside (inr l) = f i l inside
    by_place f i inside (inl l) = null_stands order (get_or rows i None) (get_or rows (i + 1) None) n (length rows) i g l inside (null-row rows n i h l) (λ m. value-row rows n (i + 1) h m inside) (λ m. null-row rows n (i + 1) h m)

-- so a test of both says
pub told-ordered : (order o : RowOrder) (rows : List (Option Value)) (n m : ℕ) (begun following : Bool) → order ≡ o → NullsFirst (map is_some rows) n → m ≡ length rows → IsTrue begun ↔ Begins order n m → begun ≡ true → IsTrue following ↔ Follow o rows n (length rows)
    → IsTrue following ↔ Holds order rows
told-ordered order o rows n m begun following e h l b t f =
    let same = follow-ordered order rows n h (subst (λ k. Begins order n k) l (b.0 t)) in
    let told : IsTrue following ↔ Follow order rows n (length rows) = subst (λ o. IsTrue following ↔ Follow o rows n (length rows)) (sym e) f in
    (λ t. same.0 (told.0 t), λ h. told.1 (same.1 h))

-- and the nulls of rows in order may begin
pub ordered-begins : (order : RowOrder) (rows : List (Option Value)) (n : ℕ) → NullsFirst (map is_some rows) n → Holds order rows → Begins order n (length rows)
ordered-begins Sorted rows n h o = tt
ordered-begins StrictlySorted rows n h o = by_count (cases_lt n 2)
  where
    by_count : (n < 2) ⊎ (2 ≤ n) → n < 2
    by_count (inl l) = l
    by_count (inr l) = absurd (false≢true (rw (null-row rows n 0 h (omega (arith, l)), null-row rows n 1 h (omega (arith, l))) at (o 0 (omega (arith, l, h.within, length-map rows is_some)))))
ordered-begins Constant rows n h o = (some rows o, by_count (cases_lt 0 n) (cases_lt n (length rows)))
  where
    some : (rows : List (Option Value)) → IsConstant rows → 0 < length rows
    some [] o = absurd o
    some (row ∷ rows) o = omega arith

    by_count : (0 < n) ⊎ (n ≤ 0) → (n < length rows) ⊎ (length rows ≤ n) → (n ≡ 0) ⊎ (n ≡ length rows)
    by_count (inr l) m = inl (omega (arith, l))
    by_count (inl l) (inl m) = absurd (true≢false (sym (value-row rows n n h (omega arith) m) ∙ ap is_some (rows-constant rows o n m ∙ null-row rows n 0 h l)))
    by_count (inl l) (inr m) = inr (omega (arith, m, h.within, length-map rows is_some))

-- one more row that follows
pub follow-more : (order : RowOrder) (rows : List (Option Value)) (n i : ℕ) → 1 ≤ i → Follow order rows n i → IsTrue (stand order (get_or rows (i - 1) None) (get_or rows i None)) → Follow order rows n (i + 1)
follow-more order rows n i one before last k l inside = by_place (cases_lt (k + 1) i)
  where
    by_place : (k + 1 < i) ⊎ (i ≤ k + 1) → IsTrue (stand order (get_or rows k None) (get_or rows (k + 1) None))
    by_place (inl b) = before k l b
    by_place (inr b) =
        let here : k + 1 ≡ i = omega (arith, inside, b) in
        let prior : k ≡ i - 1 = omega (arith, here) in
        rw (here, prior) last
