-- Elements of lists at places.
use Rattle.std.proofs.Common.{◌≡◌, ◌≢◌, ℕ, zero, suc, ◌<◌, List, [], ◌∷◌, ◌++◌, refl, ap, Bool, true, false, cond, ◌||◌, None, Some, arith, length, take, drop, map, filter, nat_lt, lt-ltb, slice_index_or}
use Rattle.std.specs.Prelude.{position, slice_get}
use Rattle.std.specs.List.{AllByRecursion, list_any, position_or_len, remove}
use Rattle.std.proofs.Math.ListN.{set}
use Rattle.std.proofs.lemmas.List.Quantifiers.{position-Some}
use Rattle.std.proofs.lemmas.Option.{slice_get-get_or}

pub remove_set : {A : Type 0} (xs : List A) (i : ℕ) (y : A) → remove (set xs i y) i ≡ remove xs i
remove_set [] zero y = refl
remove_set [] (suc i) y = refl
remove_set (x ∷ xs) zero y = refl
remove_set (x ∷ xs) (suc i) y = ap (λ zs. x ∷ zs) (remove_set xs i y)

pub set_set : {A : Type 0} (xs : List A) (i : ℕ) (y z : A) → set (set xs i y) i z ≡ set xs i z
set_set [] zero y z = refl
set_set [] (suc i) y z = refl
set_set (x ∷ xs) zero y z = refl
set_set (x ∷ xs) (suc i) y z = ap (λ zs. x ∷ zs) (set_set xs i y z)

pub get_set : {A : Type 0} (xs : List A) (i : ℕ) (x y : A) → slice_get xs i ≡ Some x → slice_get (set xs i y) i ≡ Some y
get_set [] i x y e = cc
get_set (z ∷ xs) zero x y e = refl
get_set (z ∷ xs) (suc i) x y e = get_set xs i x y e

pub get_set_other : {A : Type 0} (xs : List A) (i j : ℕ) (y : A) → j ≢ i → slice_get (set xs i y) j ≡ slice_get xs j
get_set_other [] zero j y ne = refl
get_set_other [] (suc i) j y ne = refl
get_set_other (x ∷ xs) zero zero y ne = absurd (ne refl)
get_set_other (x ∷ xs) zero (suc j) y ne = refl
get_set_other (x ∷ xs) (suc i) zero y ne = refl
get_set_other (x ∷ xs) (suc i) (suc j) y ne = get_set_other xs i j y (λ e. ne (ap (λ k. suc k) e))

-- what stands within a list
pub some_at : {A : Type 0} (xs : List A) (i : ℕ) → i < length xs → (x : A) × (slice_get xs i ≡ Some x)
some_at [] i h = absurd (omega (arith, h))
some_at (x ∷ xs) zero h = (x, refl)
some_at (x ∷ xs) (suc i) h = some_at xs i (omega (arith, h))

-- the first that passes a test
pub at_position : {A : Type 0} (p : A → Bool) (xs : List A) (i : ℕ) (x : A) → position p xs ≡ Some i → slice_get xs i ≡ Some x → p x ≡ true
at_position p xs i x e at =
    let h = position-Some p xs i x e in
    let got : slice_get xs i ≡ Some (slice_index_or xs i x) = slice_get-get_or xs i x h.0 in
    let same : slice_index_or xs i x ≡ x = cc in
    rw same at h.1

prefix_within : {A : Type 0} (p : A → Bool) (xs : List A) → list_any p xs ≡ true → position_or_len p xs < length xs
prefix_within p [] e = absurd (cc)
prefix_within p (x ∷ xs) e = elim (p x) as (λ b. p x ≡ b → position_or_len p (x ∷ xs) < length (x ∷ xs)) [ true ↦ λ h. (rw h (omega arith)) | false ↦ λ h. rw h (let ih = prefix_within p xs (rw h at e) in omega (arith, ih)) ] refl

pub none_at : {A : Type 0} (p : A → Bool) (xs : List A) → position p xs ≡ None → list_any p xs ≡ false
none_at p xs e =
    elim (list_any p xs) as (λ b. list_any p xs ≡ b → b ≡ false) [
      | true ↦ λ h. absurd (let within = prefix_within p xs h in let test : nat_lt (position_or_len p xs) (length xs) ≡ true = lt-ltb _ _ within in cc)
      | false ↦ λ h. refl
    ] refl

-- a list is what stands before a place, its element there, and what stands behind
pub split_at : {X : Type 0} (xs : List X) (i : ℕ) (x : X) → slice_get xs i ≡ Some x → xs ≡ take i xs ++ x ∷ drop (suc i) xs
split_at [] i x e = absurd (cc)
split_at (y ∷ ys) zero x e = let same : y ≡ x = cc in ap (λ z. z ∷ ys) same
split_at (y ∷ ys) (suc i) x e = ap (λ zs. y ∷ zs) (split_at ys i x e)

-- what holds of each element
pub each_at : {A : Type 0} (Q : A → Type 0) (xs : List A) (i : ℕ) (x : A) → AllByRecursion Q xs → slice_get xs i ≡ Some x → Q x
each_at Q [] i x a e = absurd (cc)
each_at Q (y ∷ ys) zero x a e = let same : y ≡ x = cc in rw same at a.0
each_at Q (y ∷ ys) (suc i) x a e = each_at Q ys i x a.1 e

pub each_weaker : {A : Type 0} (P Q : A → Type 0) (xs : List A) → ((x : A) → P x → Q x) → AllByRecursion P xs → AllByRecursion Q xs
each_weaker P Q [] f a = tt
each_weaker P Q (x ∷ xs) f a = (f x a.0, each_weaker P Q xs f a.1)

pub each_push : {A : Type 0} (Q : A → Type 0) (xs : List A) (y : A) → AllByRecursion Q xs → Q y → AllByRecursion Q (xs ++ y ∷ [])
each_push Q [] y a q = (q, tt)
each_push Q (x ∷ xs) y a q = (a.0, each_push Q xs y a.1 q)

pub each_append : {A : Type 0} (Q : A → Type 0) (xs ys : List A) → AllByRecursion Q xs → AllByRecursion Q ys → AllByRecursion Q (xs ++ ys)
each_append Q [] ys a b = b
each_append Q (x ∷ xs) ys a b = (a.0, each_append Q xs ys a.1 b)

pub each_before : {A : Type 0} (Q : A → Type 0) (xs ys : List A) → AllByRecursion Q (xs ++ ys) → AllByRecursion Q xs
each_before Q [] ys a = tt
each_before Q (x ∷ xs) ys a = (a.0, each_before Q xs ys a.1)

pub each_behind : {A : Type 0} (Q : A → Type 0) (xs ys : List A) → AllByRecursion Q (xs ++ ys) → AllByRecursion Q ys
each_behind Q [] ys a = a
each_behind Q (x ∷ xs) ys a = each_behind Q xs ys a.1

pub each_remove : {A : Type 0} (Q : A → Type 0) (xs : List A) (i : ℕ) → AllByRecursion Q xs → AllByRecursion Q (remove xs i)
each_remove Q [] zero a = tt
each_remove Q [] (suc i) a = tt
each_remove Q (x ∷ xs) zero a = a.1
each_remove Q (x ∷ xs) (suc i) a = (a.0, each_remove Q xs i a.1)

pub each_set : {A : Type 0} (Q : A → Type 0) (xs : List A) (i : ℕ) (y : A) → AllByRecursion Q xs → Q y → AllByRecursion Q (set xs i y)
each_set Q [] zero y a q = tt
each_set Q [] (suc i) y a q = tt
each_set Q (x ∷ xs) zero y a q = (q, a.1)
each_set Q (x ∷ xs) (suc i) y a q = (a.0, each_set Q xs i y a.1 q)

pub each_set_of_removed : {A : Type 0} (Q : A → Type 0) (xs : List A) (i : ℕ) (y : A) → AllByRecursion Q (remove xs i) → Q y → AllByRecursion Q (set xs i y)
each_set_of_removed Q [] zero y a q = tt
each_set_of_removed Q [] (suc i) y a q = tt
each_set_of_removed Q (x ∷ xs) zero y a q = (q, a)
each_set_of_removed Q (x ∷ xs) (suc i) y a q = (a.0, each_set_of_removed Q xs i y a.1 q)

pub each_filter : {A : Type 0} (Q R : A → Type 0) (p : A → Bool) (xs : List A) → ((x : A) → p x ≡ true → Q x → R x) → AllByRecursion Q xs → AllByRecursion R (filter p xs)
each_filter Q R p [] f a = tt
each_filter {A} Q R p (x ∷ xs) f a =
    elim (p x) as (λ b. p x ≡ b → AllByRecursion R (cond b (x ∷ filter p xs) (filter p xs)))
    [ true ↦ λ e. (f x e a.0, each_filter Q R p xs f a.1) | false ↦ λ e. each_filter Q R p xs f a.1 ] refl

-- tests of mapped elements
pub any_map : {A B : Type 0} (p : B → Bool) (f : A → B) (xs : List A) → list_any p (map f xs) ≡ list_any (λ x. p (f x)) xs
any_map p f [] = refl
any_map p f (x ∷ xs) = ap (λ b. p (f x) || b) (any_map p f xs)

pub none_passes : {X : Type 0} (p : X → Bool) (xs : List X) → list_any p xs ≡ false → AllByRecursion (λ x. p x ≡ false) xs
none_passes p [] none = tt
none_passes p (x ∷ xs) none = (grind arith, none_passes p xs (grind arith))
