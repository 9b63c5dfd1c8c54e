-- Which of numbered things are picked, and how many picked ones stand before each.
use Rattle.std.proofs.Common.{◌≡◌, ◌∙◌, sym, ap, subst, refl, ℕ, zero, suc, ◌+◌, ◌<◌, List, [], ◌∷◌, Bool, true, false, cond, length, map, filter, Some, arith, add-one}
use Rattle.std.specs.Prelude.{count_by, slice_get}
use Rattle.std.specs.List.{range_with_len}
use Rattle.vortex_table_scan.specs.Parted.{picked}
use Rattle.vortex_table_scan.proofs.Tallied.{count_other, count_own}

-- how many numbers pass from the first on, where that passes
pub counted_first : (test : ℕ → Bool) (p n : ℕ) → test p ≡ true → count_by test (range_with_len p (suc n)) ≡ suc (count_by test (range_with_len (suc p) n))
counted_first test p n e =
    let more : 1 + count_by test (range_with_len (suc p) n) ≡ suc (count_by test (range_with_len (suc p) n)) = omega arith in
    count_own test p (range_with_len (p + 1) n) e ∙ ap (λ q. 1 + count_by test (range_with_len q n)) (add-one p) ∙ more

-- and where it does not
pub counted_other : (test : ℕ → Bool) (p n : ℕ) → test p ≡ false → count_by test (range_with_len p (suc n)) ≡ count_by test (range_with_len (suc p) n)
counted_other test p n e = count_other test p (range_with_len (p + 1) n) e ∙ ap (λ q. count_by test (range_with_len q n)) (add-one p)

passes_on : (test : ℕ → Bool) (p k : ℕ) → test (p + suc k) ≡ true → test (suc p + k) ≡ true
passes_on test p k e = let same : p + suc k ≡ suc p + k = omega arith in subst (λ q. test q ≡ true) same e

passes_back : (test : ℕ → Bool) (p k : ℕ) → test (suc p + k) ≡ true → test (p + suc k) ≡ true
passes_back test p k e = let same : suc p + k ≡ p + suc k = omega arith in subst (λ q. test q ≡ true) same e

passes_first : (test : ℕ → Bool) (p : ℕ) → test (p + 0) ≡ true → test p ≡ true
passes_first test p e = let same : p + 0 ≡ p = omega arith in subst (λ q. test q ≡ true) same e

first_passes : (test : ℕ → Bool) (p : ℕ) → test p ≡ true → test (p + 0) ≡ true
first_passes test p e = let same : p ≡ p + 0 = omega arith in subst (λ q. test q ≡ true) same e

-- a thing whose number passes stands among the picked ones, behind as many as pass before it
pub picked_at : {X : Type 0} (test : ℕ → Bool) (p : ℕ) (xs : List X) (k : ℕ) (x : X) → slice_get xs k ≡ Some x → test (p + k) ≡ true → slice_get (picked test p xs) (count_by test (range_with_len p k)) ≡ Some x
picked_at test p [] k x there passes = absurd (cc)
picked_at test p (y ∷ xs) zero x there passes = ap (λ b. slice_get (cond b (y ∷ picked test (suc p) xs) (picked test (suc p) xs)) 0) (passes_first test p passes) ∙ there
picked_at {X} test p (y ∷ xs) (suc k) x there passes = by (test p) refl (picked_at test (suc p) xs k x there (passes_on test p k passes))
  where
    by : (b : Bool) → test p ≡ b → slice_get (picked test (suc p) xs) (count_by test (range_with_len (suc p) k)) ≡ Some x → slice_get (picked test p (y ∷ xs)) (count_by test (range_with_len p (suc k))) ≡ Some x
    by true e rest =
        ap (λ i. slice_get (picked test p (y ∷ xs)) i) (counted_first test p k e)
        ∙ ap (λ b. slice_get (cond b (y ∷ picked test (suc p) xs) (picked test (suc p) xs)) (suc (count_by test (range_with_len (suc p) k)))) e ∙ rest
    by false e rest =
        ap (λ i. slice_get (picked test p (y ∷ xs)) i) (counted_other test p k e)
        ∙ ap (λ b. slice_get (cond b (y ∷ picked test (suc p) xs) (picked test (suc p) xs)) (count_by test (range_with_len (suc p) k))) e ∙ rest

-- a picked thing: its place among all, and how many picked ones stand before it
pub record PickedAt {X : Type 0} (test : ℕ → Bool) (p : ℕ) (xs : List X) (r : ℕ) (x : X) : Type 0 where
  pub place : ℕ
  pub there : slice_get xs place ≡ Some x
  pub passes : test (p + place) ≡ true
  pub rank : r ≡ count_by test (range_with_len p place)

-- each picked thing has its place
pub picked_from : {X : Type 0} (test : ℕ → Bool) (p : ℕ) (xs : List X) (r : ℕ) (x : X) → slice_get (picked test p xs) r ≡ Some x → PickedAt test p xs r x
picked_from test p [] r x there = absurd (cc)
picked_from {X} test p (y ∷ xs) r x there = by (test p) refl r there (picked_from test (suc p) xs)
  where
    by : (b : Bool) → test p ≡ b → (i : ℕ) → slice_get (cond (test p) (y ∷ picked test (suc p) xs) (picked test (suc p) xs)) i ≡ Some x
        → ((j : ℕ) (z : X) → slice_get (picked test (suc p) xs) j ≡ Some z → PickedAt test (suc p) xs j z) → PickedAt test p (y ∷ xs) i x
    by true e zero at rest = record {
      place = 0;
      there = subst (λ b. slice_get (cond b (y ∷ picked test (suc p) xs) (picked test (suc p) xs)) 0 ≡ Some x) e at;
      passes = first_passes test p e;
      rank = refl;
    }
    by true e (suc i) at rest =
        let h = rest i x (subst (λ b. slice_get (cond b (y ∷ picked test (suc p) xs) (picked test (suc p) xs)) (suc i) ≡ Some x) e at) in
        record { place = suc h.place; there = h.there; passes = passes_back test p h.place h.passes; rank = ap suc h.rank ∙ sym (counted_first test p h.place e) }
    by false e i at rest =
        let h = rest i x (subst (λ b. slice_get (cond b (y ∷ picked test (suc p) xs) (picked test (suc p) xs)) i ≡ Some x) e at) in
        record { place = suc h.place; there = h.there; passes = passes_back test p h.place h.passes; rank = h.rank ∙ sym (counted_other test p h.place e) }

-- the numbers that pass, each behind as many as pass before it
pub numbers_at : (test : ℕ → Bool) (p n k : ℕ) → k < n → test (p + k) ≡ true → slice_get (filter test (range_with_len p n)) (count_by test (range_with_len p k)) ≡ Some (p + k)
numbers_at test p zero k less passes = absurd (omega (arith, less))
numbers_at test p (suc n) zero less passes =
    let same : p ≡ p + 0 = omega arith in
    ap (λ b. slice_get (cond b (p ∷ filter test (range_with_len (p + 1) n)) (filter test (range_with_len (p + 1) n))) 0) (passes_first test p passes) ∙ ap (λ q. Some q) same
numbers_at test p (suc n) (suc k) less passes = by (test p) refl (numbers_at test (suc p) n k (omega (arith, less)) (passes_on test p k passes))
  where
    same : suc p + k ≡ p + suc k
    same = omega arith

    by : (b : Bool) → test p ≡ b → slice_get (filter test (range_with_len (suc p) n)) (count_by test (range_with_len (suc p) k)) ≡ Some (suc p + k)
        → slice_get (filter test (range_with_len p (suc n))) (count_by test (range_with_len p (suc k))) ≡ Some (p + suc k)
    by true e later =
        ap (λ i. slice_get (filter test (range_with_len p (suc n))) i) (counted_first test p k e)
        ∙ ap (λ b. slice_get (cond b (p ∷ filter test (range_with_len (p + 1) n)) (filter test (range_with_len (p + 1) n))) (suc (count_by test (range_with_len (suc p) k)))) e
        ∙ ap (λ q. slice_get (filter test (range_with_len q n)) (count_by test (range_with_len (suc p) k))) (add-one p) ∙ later ∙ ap (λ q. Some q) same
    by false e later =
        ap (λ i. slice_get (filter test (range_with_len p (suc n))) i) (counted_other test p k e)
        ∙ ap (λ b. slice_get (cond b (p ∷ filter test (range_with_len (p + 1) n)) (filter test (range_with_len (p + 1) n))) (count_by test (range_with_len (suc p) k))) e
        ∙ ap (λ q. slice_get (filter test (range_with_len q n)) (count_by test (range_with_len (suc p) k))) (add-one p) ∙ later ∙ ap (λ q. Some q) same

-- what stands at a place of a changed list
pub mapped_at : {X Y : Type 0} (f : X → Y) (xs : List X) (k : ℕ) (y : Y) → slice_get (map f xs) k ≡ Some y → (x : X) × (slice_get xs k ≡ Some x) × (f x ≡ y)
mapped_at f [] k y e = absurd (cc)
mapped_at f (x ∷ xs) zero y e = (x, refl, (cc))
mapped_at f (x ∷ xs) (suc k) y e = mapped_at f xs k y e

-- an element at a place of one list, and at that of another as long
pub other_at : {X Y : Type 0} (xs : List X) (ys : List Y) (k : ℕ) (x : X) → length ys ≡ length xs → slice_get xs k ≡ Some x → (y : Y) × (slice_get ys k ≡ Some y)
other_at [] ys k x long e = absurd (cc)
other_at (z ∷ xs) [] k x long e = absurd (omega (arith, long))
other_at (z ∷ xs) (y ∷ ys) zero x long e = (y, refl)
other_at (z ∷ xs) (y ∷ ys) (suc k) x long e = other_at xs ys k x (omega (arith, long)) e
