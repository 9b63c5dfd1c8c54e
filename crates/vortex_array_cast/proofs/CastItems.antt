-- Items that are cast one by one, and block by block.
use Rattle.std.proofs.Common.{ℕ, inl, inr, ◌<◌, ◌≤◌, ◌≡◌, ◌+◌, Bool, List, [], ◌∷◌, ◌++◌, length, get_or, map, take, drop, slice_set, sym, ap, ◌∙◌, arith}
use Rattle.std.specs.Prelude.{ℤ, pos, IsTrue, ◌⊎◌, ◌&&◌}
use Rattle.std.specs.List.{list_all}
use Rattle.std.proofs.lemmas.Bool.{cases_lt}
use Rattle.std.proofs.lemmas.List.{length-append, length-map, length-take, get_or-map, get_or-drop, get_or_append_left, get_or_push, take_more_set, map_push}
use Rattle.std.proofs.lemmas.List.Folds.{list_all_more}
use Rattle.vortex_array_cast.specs.Casts.{AreCast}

-- one more item
cast_one : {X : Type 0} (fits : X → Bool) (xs ys : List X) (y : X) → AreCast fits xs ys → ((d : X) → IsTrue (fits (get_or xs (length ys) d)) → y ≡ get_or xs (length ys) d) → AreCast fits xs (ys ++ y ∷ [])
cast_one {X} fits xs ys y h here = record { same = λ i d l fit. by_place i d l fit (cases_lt i (length ys)) }
  where
    by_place : (i : ℕ) (d : X) → i < length (ys ++ y ∷ []) → IsTrue (fits (get_or xs i d)) → (i < length ys) ⊎ (length ys ≤ i) → get_or (ys ++ y ∷ []) i d ≡ get_or xs i d
    by_place i d l fit (inl b) = get_or_append_left ys (y ∷ []) d i b ∙ h.same i d b fit
    by_place i d l fit (inr b) =
        let last : i ≡ length ys = omega (arith, l, b, length-append ys (y ∷ [])) in
        get_or_push ys y d i (sym last) ∙ rw last (here d (rw last at fit))

-- one more number of a block
pub block-more : {X Y : Type 0} (number : X → ℤ) (other : Y → ℤ) (fits : ℤ → Bool) (xs : List X) (start : ℕ) (out : List Y) (i : ℕ) (x : X) (y : Y) (fit : Bool) → i < length out → start + i < length xs
    → x ≡ get_or xs (start + i) x → fit ≡ fits (number x) → (IsTrue fit → other y ≡ number x)
    → AreCast fits (drop start (map number xs)) (map other (take i out)) → AreCast fits (drop start (map number xs)) (map other (take (i + 1) (slice_set out i y)))
block-more number other fits xs start out i x y fit l b is here same h =
    let n : length (map other (take i out)) ≡ i = omega (arith, length-map (take i out) other, length-take i out, l) in
    let there : (d : ℤ) → get_or (drop start (map number xs)) (length (map other (take i out))) d ≡ number x = λ d.
    get_or-drop start (map number xs) (length (map other (take i out))) d
    ∙ ap (λ j. get_or (map number xs) (start + j) d) n
    ∙ get_or-map number xs (start + i) x d b
    ∙ ap number (sym is) in
    rw (take_more_set out i y l, map_push other (take i out))
    (cast_one fits (drop start (map number xs)) (map other (take i out)) (other y) h (λ d k. same (here ∙ sym (ap fits (there d)) ∙ k) ∙ sym (there d)))

-- whether one more number and all before it fit
pub fit-more : {X : Type 0} (number : X → ℤ) (fits : ℤ → Bool) (xs : List X) (n m : ℕ) (x : X) (all fit : Bool) → m ≡ n + 1 → n < length xs → x ≡ get_or xs n x → fit ≡ fits (number x) → all ≡ list_all fits (take n (map number xs)) → (all && fit) ≡ list_all fits (take m (map number xs))
fit-more number fits xs n m x all fit e l is here h =
    let number_at : get_or (map number xs) n (pos 0) ≡ number x = get_or-map number xs n x (pos 0) l ∙ ap number (sym is) in
    rw e
    (ap (λ b. b && fit) h
    ∙ ap (λ b. list_all fits (take n (map number xs)) && b) (here ∙ sym (ap fits number_at))
    ∙ sym (list_all_more fits (map number xs) n (pos 0) (omega (arith, l, length-map xs number))))

-- items are cast where what they stand for is
pub cast-map : {X Y : Type 0} (f : X → Y) (fits : X → Bool) (also : Y → Bool) (xs ys : List X) (z : X) → ((x : X) → also (f x) ≡ fits x) → length ys ≡ length xs → AreCast fits xs ys → AreCast also (map f xs) (map f ys)
cast-map f fits also xs ys z alike n h =
    record {
      same = λ i d l fit.
          let inside : i < length ys = omega (arith, l, length-map ys f) in
          let there : get_or (map f xs) i d ≡ f (get_or xs i z) = get_or-map f xs i z d (omega (arith, inside, n)) in
          get_or-map f ys i z d inside
          ∙ ap f (h.same i z inside (sym (alike (get_or xs i z)) ∙ sym (ap also there) ∙ fit))
          ∙ sym there;
    }
