use Rattle.std.proofs.Common.{◌≡◌, ℕ, zero, suc, ◌<◌, ◌≤◌, List, [], ◌∷◌, refl, ◌∙◌, true, false, drop, None, Some, arith}
use Rattle.std.proofs.lemmas.Bool.Decides.{nat_tests}
use Rattle.std.specs.Prelude.{slice_get, ltb, eqb, ◌||◌, ◌&&◌, Bool}
use Rattle.vortex_scan.specs.Keys.{key_less}

drop_none : (xs : List ℕ) (i : ℕ) → slice_get xs i ≡ None → drop i xs ≡ []
drop_none [] zero e = refl
drop_none [] (suc i) e = refl
drop_none (x ∷ xs) zero e = cc
drop_none (x ∷ xs) (suc i) e = drop_none xs i e

drop_some : (xs : List ℕ) (i q : ℕ) → slice_get xs i ≡ Some q → drop i xs ≡ q ∷ drop (suc i) xs
drop_some [] i q e = cc
drop_some (x ∷ xs) zero q e = cc
drop_some (x ∷ xs) (suc i) q e = drop_some xs i q e

pub less_no_right : (xs ys : List ℕ) (i : ℕ) → slice_get ys i ≡ None → key_less (drop i xs) (drop i ys) ≡ false
less_no_right xs ys i e = rw (drop_none ys i e) (elim (drop i xs) as (λ z. key_less z [] ≡ false) [ [] ↦ refl | z ∷ zs ↦ refl ])

pub less_no_left : (xs ys : List ℕ) (i q : ℕ) → slice_get ys i ≡ Some q → slice_get xs i ≡ None → key_less (drop i xs) (drop i ys) ≡ true
less_no_left xs ys i q e n = rw (drop_some ys i q e, drop_none xs i n) refl

pub less_both : (xs ys : List ℕ) (i p q : ℕ) → slice_get ys i ≡ Some q → slice_get xs i ≡ Some p → key_less (drop i xs) (drop i ys) ≡ (ltb p q || (eqb p q && key_less (drop (suc i) xs) (drop (suc i) ys)))
less_both xs ys i p q e n = rw (drop_some ys i q e, drop_some xs i p n) refl

pub less_yes : (xs ys : List ℕ) (i p q : ℕ) → slice_get ys i ≡ Some q → slice_get xs i ≡ Some p → p < q → key_less (drop i xs) (drop i ys) ≡ true
less_yes xs ys i p q e n h = less_both xs ys i p q e n ∙ grind (arith, nat_tests)

pub less_no : (xs ys : List ℕ) (i p q : ℕ) → slice_get ys i ≡ Some q → slice_get xs i ≡ Some p → q < p → key_less (drop i xs) (drop i ys) ≡ false
less_no xs ys i p q e n h = less_both xs ys i p q e n ∙ grind (arith, nat_tests)

pub less_next : (xs ys : List ℕ) (i p q : ℕ) → slice_get ys i ≡ Some q → slice_get xs i ≡ Some p → q ≤ p → p ≤ q → key_less (drop i xs) (drop i ys) ≡ key_less (drop (suc i) xs) (drop (suc i) ys)
less_next xs ys i p q e n h k = less_both xs ys i p q e n ∙ grind (arith, nat_tests)

pub key_less_irrefl : (xs : List ℕ) → key_less xs xs ≡ false
key_less_irrefl [] = refl
key_less_irrefl (x ∷ xs) = let e = key_less_irrefl xs in grind (arith, nat_tests)

less_nil : (xs : List ℕ) → key_less xs [] ≡ true → ⊥
less_nil [] h = cc
less_nil (x ∷ xs) h = cc

trans_cons : (x y z : ℕ) (p q r : Bool) → (p ≡ true → q ≡ true → r ≡ true) → (ltb x y || (eqb x y && p)) ≡ true → (ltb y z || (eqb y z && q)) ≡ true → (ltb x z || (eqb x z && r)) ≡ true
trans_cons x y z p q r f h k = grind (arith, nat_tests)

pub key_less_trans : (xs ys zs : List ℕ) → key_less xs ys ≡ true → key_less ys zs ≡ true → key_less xs zs ≡ true
key_less_trans xs ys [] h k = k
key_less_trans xs [] (z ∷ zs) h k = absurd (less_nil xs h)
key_less_trans [] (y ∷ ys) (z ∷ zs) h k = refl
key_less_trans (x ∷ xs) (y ∷ ys) (z ∷ zs) h k =
    trans_cons x y z (key_less xs ys) (key_less ys zs) (key_less xs zs) (key_less_trans xs ys zs) h k

heads_same : (x y : ℕ) (p q : Bool) → (ltb x y || (eqb x y && p)) ≡ false → (ltb y x || (eqb y x && q)) ≡ false → x ≡ y
heads_same x y p q h k = grind (arith, nat_tests)

rest_same : (x : ℕ) (p : Bool) → (ltb x x || (eqb x x && p)) ≡ false → p ≡ false
rest_same x p h = grind (arith, nat_tests)

-- keys that stand on neither side of each other are one
pub key_same : (xs ys : List ℕ) → key_less xs ys ≡ false → key_less ys xs ≡ false → xs ≡ ys
key_same [] [] h k = refl
key_same [] (y ∷ ys) h k = absurd (cc)
key_same (x ∷ xs) [] h k = absurd (cc)
key_same (x ∷ xs) (y ∷ ys) h k =
    let e = heads_same x y (key_less xs ys) (key_less ys xs) h k in
    let h2 = rest_same y (key_less xs ys) (rw e at h) in
    let k2 = rest_same y (key_less ys xs) (rw e at k) in
    rw (e, key_same xs ys h2 k2) refl
