-- Counts of fetches, and sums over items.
use Rattle.std.proofs.Common.{◌≡◌, ℕ, ◌+◌, ◌≤◌, List, [], ◌∷◌, ◌++◌, refl, sym, ◌∙◌, ap, Bool, true, false, cond, ◌&&◌, Some, arith, filter, slice_index_or}
use Rattle.std.specs.Prelude.{slice_get, count_by, sum_by}
use Rattle.std.specs.List.{AllByRecursion, remove}
use Rattle.std.proofs.Math.ListN.{set}
use Rattle.std.proofs.lemmas.List.Sums.{sum_by-append, sum_by-cons, sum_by-remove, sum_by-set}
use Rattle.std.proofs.lemmas.Option.{get_or_from_slice_get, slice_get_within}

module _ {A : Type 0} (f : A → ℕ) where
  pub set_sum : (xs : List A) (i : ℕ) (x y : A) → slice_get xs i ≡ Some x → sum_by f (set xs i y) + f x ≡ sum_by f xs + f y
  set_sum xs i x y there =
      let h = sum_by-set f xs i y x (slice_get_within xs i x there) in
      let g : f (slice_index_or xs i x) ≡ f x = ap f (get_or_from_slice_get xs i x x there) in
      omega (arith, h, g)

  pub removed_sum : (xs : List A) (i : ℕ) (x : A) → slice_get xs i ≡ Some x → sum_by f (remove xs i) + f x ≡ sum_by f xs
  removed_sum xs i x there =
      let h = sum_by-remove f xs i x (slice_get_within xs i x there) in
      let g : f (slice_index_or xs i x) ≡ f x = ap f (get_or_from_slice_get xs i x x there) in
      omega (arith, h, g)

  pub none_sum : (xs : List A) → AllByRecursion (λ x. f x ≡ 0) xs → sum_by f xs ≡ 0
  none_sum [] a = refl
  none_sum (x ∷ xs) a = let h = sum_by-cons f x xs in let t = none_sum xs a.1 in let e = a.0 in omega (arith, h, t, e)

pub same_sum : {A : Type 0} (f g : A → ℕ) (xs : List A) → AllByRecursion (λ x. f x ≡ g x) xs → sum_by f xs ≡ sum_by g xs
same_sum f g [] a = refl
same_sum f g (x ∷ xs) a = let h = sum_by-cons f x xs in let k = sum_by-cons g x xs in let t = same_sum f g xs a.1 in let e = a.0 in omega (arith, h, k, t, e)

-- how much one element adds to a count
abbrev pub one_if : Bool → ℕ
one_if b = cond b 1 0

pub count_cons : {A : Type 0} (p : A → Bool) (x : A) (xs : List A) → count_by p (x ∷ xs) ≡ one_if (p x) + count_by p xs
count_cons p x xs = sum_by-cons (λ y. one_if (p y)) x xs

pub count_join : {A : Type 0} (p : A → Bool) (xs ys : List A) → count_by p (xs ++ ys) ≡ count_by p xs + count_by p ys
count_join p xs ys = sum_by-append (λ y. one_if (p y)) xs ys

pub count_none : {A : Type 0} (p : A → Bool) (xs : List A) → AllByRecursion (λ x. p x ≡ false) xs → count_by p xs ≡ 0
count_none p [] a = refl
count_none p (x ∷ xs) a = count_cons p x xs ∙ ap (λ b. one_if b + count_by p xs) a.0 ∙ (let h = count_none p xs a.1 in omega (arith, h))

one_both : (a b : Bool) → one_if (a && b) ≤ one_if a
one_both true true = omega arith
one_both true false = omega arith
one_both false b = omega arith

-- fewer pass two tests
pub count_both : {A : Type 0} (p q : A → Bool) (xs : List A) → count_by (λ x. p x && q x) xs ≤ count_by p xs
count_both p q [] = omega arith
count_both p q (x ∷ xs) =
    let h = count_cons (λ y. p y && q y) x xs in
    let k = count_cons p x xs in
    let t = count_both p q xs in
    let e = one_both (p x) (q x) in
    omega (arith, h, k, t, e)

pub count_filter : {A : Type 0} (p q : A → Bool) (xs : List A) → count_by q (filter p xs) ≡ count_by (λ x. p x && q x) xs
count_filter p q [] = refl
count_filter p q (x ∷ xs) =
    let t = count_filter p q xs in
    let h = count_cons (λ y. p y && q y) x xs in
    elim (p x) as (λ b. p x ≡ b → count_by q (cond b (x ∷ filter p xs) (filter p xs)) ≡ count_by (λ y. p y && q y) (x ∷ xs)) [
      | true ↦ λ e. count_cons q x (filter p xs) ∙ ap (λ n. one_if (q x) + n) t ∙ sym (h ∙ ap (λ b. one_if (b && q x) + count_by (λ y. p y && q y) xs) e)
      | false ↦ λ e. t ∙ sym (h ∙ ap (λ b. one_if (b && q x) + count_by (λ y. p y && q y) xs) e ∙ (let z : 0 + count_by (λ y. p y && q y) xs ≡ count_by (λ y. p y && q y) xs = omega arith in z))
    ] refl
