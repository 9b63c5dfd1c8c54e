-- Without a limit each batch has all rows of its split: the rows of all splits are no more than there are rows.
use Rattle.std.proofs.Common.{◌≡◌, ◌∙◌, sym, ap, refl, ℕ, suc, ◌+◌, ◌≤◌, List, [], ◌∷◌, Bool, true, false, cond, length, arith}
use Rattle.std.specs.Prelude.{All, AllPairs, Any, Contains, None, ◌≢◌}
use Rattle.std.proofs.lemmas.List.{take_all}
use Rattle.std.proofs.lemmas.List.Sums.{sum_by-cons}
use Rattle.vortex_scan_types.specs.declared.batch.WorkScope.{WorkScope}
use Rattle.vortex_table_types.specs.Chosen.{Placed, lies_in, rows_in}
use Rattle.vortex_table_types.specs.Answers.{Answers, Asked, Given, IsPrefix, count_of, stands_for, within}
use Rattle.vortex_table_types.specs.Laws.{AreApart, NoRowMissing, WithoutLimit}
use Rattle.vortex_table_types.proofs.Rising.{Each, Rising, each_at, each_more}

-- what std says of each place, said by recursion
pub all_each : {X : Type 0} (P : X → Type 0) (xs : List X) → All P xs → Each P xs
all_each P [] a = tt
all_each P (x ∷ xs) a = (a 0 x (omega arith), all_each P xs (λ k d h. a (suc k) d (omega (arith, h))))

-- and what it says of any two places
pairs_rise : {X : Type 0} (R : X → X → Type 0) (xs : List X) → AllPairs R xs → Rising R xs
pairs_rise R [] a = tt
pairs_rise R (x ∷ xs) a = (all_each (R x) xs (λ k d h. a 0 (suc k) d (omega arith) (omega (arith, h))), pairs_rise R xs (λ i j d l h. a (suc i) (suc j) d (omega (arith, l)) (omega (arith, h))))

-- two facts of each element
both_each : {X : Type 0} (P Q : X → Type 0) (xs : List X) → Each P xs → Each Q xs → Each (λ x. P x × Q x) xs
both_each P Q [] e f = tt
both_each P Q (x ∷ xs) e f = ((e.0, f.0), both_each P Q xs e.1 f.1)

-- a weaker relation, among elements of which a fact holds
rising_more : {X : Type 0} (P : X → Type 0) (R S : X → X → Type 0) → ((x y : X) → P x → P y → R x y → S x y) → (xs : List X) → Each P xs → Rising R xs → Rising S xs
rising_more P R S f [] e r = tt
rising_more P R S f (x ∷ xs) e r = (each_more (λ y. P y × R x y) (S x) (λ y h. f x y e.0 h.0 h.1) xs (both_each P (R x) xs e.1 r.0), rising_more P R S f xs e.1 r.1)

-- in how many of the batches' splits a row lies
abbrev hits : List Given → Placed → ℕ
hits [] x = 0
hits (b ∷ bs) x = cond (lies_in b.scope x) 1 0 + hits bs x

-- how many rows lie in the splits together
abbrev total : List Given → List Placed → ℕ
total [] rows = 0
total (b ∷ bs) rows = length (rows_in b.scope rows) + total bs rows

-- no row lies in a split where there is none
total-nil : (bs : List Given) → total bs [] ≡ 0
total-nil [] = refl
total-nil (b ∷ bs) = omega (arith, total-nil bs)

-- one more row counts where it lies in the split
one_row : (s : WorkScope) (x : Placed) (rows : List Placed) → length (rows_in s (x ∷ rows)) ≡ cond (lies_in s x) 1 0 + length (rows_in s rows)
one_row s x rows = elim (lies_in s x) as (λ b. length (cond b (x ∷ rows_in s rows) (rows_in s rows)) ≡ cond b 1 0 + length (rows_in s rows)) [ true ↦ omega arith | false ↦ omega arith ]

-- and in as many splits as it lies in
total-cons : (bs : List Given) (x : Placed) (rows : List Placed) → total bs (x ∷ rows) ≡ hits bs x + total bs rows
total-cons [] x rows = refl
total-cons (b ∷ bs) x rows = let e : length (rows_in b.scope (x ∷ rows)) ≡ cond (lies_in b.scope x) 1 0 + length (rows_in b.scope rows) = one_row b.scope x rows in omega (arith, e, total-cons bs x rows)

-- the row lies in at most one of two splits
abbrev Apart : Placed → Given → Given → Type 0
Apart x b c = lies_in b.scope x ≡ true → lies_in c.scope x ≡ true → ⊥

-- a row that lies in none of the splits is counted in none
no_hit : (x : Placed) (bs : List Given) → Each (λ c. lies_in c.scope x ≡ true → ⊥) bs → hits bs x ≡ 0
no_hit x [] e = refl
no_hit x (b ∷ bs) e = by (lies_in b.scope x) (no_hit x bs e.1) e.0
  where
    by : (t : Bool) → hits bs x ≡ 0 → (t ≡ true → ⊥) → cond t 1 0 + hits bs x ≡ 0
    by true h f = absurd (f refl)
    by false h f = omega (arith, h)

-- in splits apart it is counted once at most
one_hit : (x : Placed) (bs : List Given) → Rising (Apart x) bs → hits bs x ≤ 1
one_hit x [] r = omega arith
one_hit x (b ∷ bs) r = by (lies_in b.scope x) refl (one_hit x bs r.1) (λ t. no_hit x bs (each_more (λ c. Apart x b c) (λ c. lies_in c.scope x ≡ true → ⊥) (λ c f. f t) bs r.0))
  where
    by : (t : Bool) → lies_in b.scope x ≡ t → hits bs x ≤ 1 → (lies_in b.scope x ≡ true → hits bs x ≡ 0) → cond t 1 0 + hits bs x ≤ 1
    by true e h f = omega (arith, f e)
    by false e h f = omega (arith, h)

-- so the splits together have no more rows than there are
total_fits : (bs : List Given) → ((x : Placed) → Rising (Apart x) bs) → (rows : List Placed) → total bs rows ≤ length rows
total_fits bs r [] = omega (arith, total-nil bs)
total_fits bs r (x ∷ rows) = omega (arith, total-cons bs x rows, one_hit x bs (r x), total_fits bs r rows)

-- the count by recursion
abbrev pub counted : List Given → ℕ
counted [] = 0
counted (b ∷ bs) = b.rows + counted bs

-- batches that are prefixes have no more rows than their splits
at_most : (rows : List Placed) (bs : List Given) → Each (λ b. b.rows ≤ length (rows_in b.scope rows)) bs → counted bs ≤ total bs rows
at_most rows [] e = omega arith
at_most rows (b ∷ bs) e = omega (arith, e.0, at_most rows bs e.1)

-- and where they have as many together, each has all of its own
all_full : (rows : List Placed) (bs : List Given) → Each (λ b. b.rows ≤ length (rows_in b.scope rows)) bs → total bs rows ≤ counted bs → Each (λ b. b.rows ≡ length (rows_in b.scope rows)) bs
all_full rows [] e h = tt
all_full rows (b ∷ bs) e h = (omega (arith, e.0, at_most rows bs e.1, h), all_full rows bs e.1 (omega (arith, e.0, h)))

-- which is the number of rows of the batches
pub count-is : (bs : List Given) → count_of bs ≡ counted bs
count-is [] = refl
count-is (b ∷ bs) = sum_by-cons (λ x. x.rows) b bs ∙ ap (λ n. b.rows + n) (count-is bs)

-- where there are as many rows in the splits as there are rows, each is hit
all_hit : (bs : List Given) → ((x : Placed) → Rising (Apart x) bs) → (rows : List Placed) → length rows ≤ total bs rows → Each (λ x. 1 ≤ hits bs x) rows
all_hit bs r [] h = tt
all_hit bs r (x ∷ rows) h = (omega (arith, total-cons bs x rows, total_fits bs r rows, h), all_hit bs r rows (omega (arith, total-cons bs x rows, one_hit x bs (r x), h)))

-- a row that is counted lies in some split
hit_any : (x : Placed) (bs : List Given) → 1 ≤ hits bs x → Any (λ b. lies_in b.scope x ≡ true) bs
hit_any x [] h = absurd (omega (arith, h))
hit_any x (b ∷ bs) h = by (lies_in b.scope x) refl h (hit_any x bs)
  where
    by : (t : Bool) → lies_in b.scope x ≡ t → 1 ≤ cond t 1 0 + hits bs x → (1 ≤ hits bs x → Any (λ c. lies_in c.scope x ≡ true) bs) → Any (λ c. lies_in c.scope x ≡ true) (b ∷ bs)
    by true e h k = (0, b, omega arith, refl, e)
    by false e h k = let a : Any (λ c. lies_in c.scope x ≡ true) bs = k (omega (arith, h)) in (suc a.0, a.1, omega (arith, a.2), a.3, a.4)

-- what an answer without a limit tells of the counts
module _ (a : Asked) (bs : List Given) (apart : AreApart a.scopes) (none : a.limit ≡ None) (answer : Answers a bs) where
  -- the splits of the batches are apart
  rise : (x : Placed) → Rising (Apart x) bs
  rise x = rising_more (λ b. Contains a.scopes b.scope) (λ b c. b.scope ≢ c.scope) (Apart x) (λ b c p q n t u. n (apart b.scope c.scope x p q t u)) bs
      (all_each (λ b. Contains a.scopes b.scope) bs answer.named) (pairs_rise (λ b c. b.scope ≢ c.scope) bs answer.distinct)

  -- each batch is a prefix
  heads : Each (λ b. b.rows ≤ length (rows_in b.scope a.rows)) bs
  heads = each_more (IsPrefix a) (λ b. b.rows ≤ length (rows_in b.scope a.rows)) (λ b p. p.rows) bs (all_each (IsPrefix a) bs answer.prefixes)

  -- the batches have as many rows as L
  all_rows : counted bs ≡ length a.rows
  all_rows = sym (count-is bs) ∙ answer.counted ∙ ap (λ l. within l (length a.rows)) none

  -- so each has all rows of its split
  full : Each (λ b. b.rows ≡ length (rows_in b.scope a.rows)) bs
  full = all_full a.rows bs heads (omega (arith, total_fits bs rise a.rows, all_rows))

  -- and stands for all of them
  whole_at : All (λ b. stands_for a.rows b ≡ rows_in b.scope a.rows) bs
  whole_at = each_at (λ b. stands_for a.rows b ≡ rows_in b.scope a.rows) bs
      (each_more (λ b. b.rows ≡ length (rows_in b.scope a.rows)) (λ b. stands_for a.rows b ≡ rows_in b.scope a.rows) (λ b e. take_all b.rows (rows_in b.scope a.rows) (omega (arith, e))) bs full)

  -- and each row of L lies in the split of a batch
  found_at : All (λ x. Any (λ b. lies_in b.scope x ≡ true) bs) a.rows
  found_at = each_at (λ x. Any (λ b. lies_in b.scope x ≡ true) bs) a.rows
      (each_more (λ x. 1 ≤ hits bs x) (λ x. Any (λ b. lies_in b.scope x ≡ true) bs) (λ x h. hit_any x bs h) a.rows (all_hit bs rise a.rows (omega (arith, at_most a.rows bs heads, all_rows))))

-- without a limit each batch has all rows of L in its split
pub whole : WithoutLimit
whole a bs apart none answer = whole_at a bs apart none answer

-- and each row of L lies in the split of some batch
pub found : NoRowMissing
found a bs apart none answer = found_at a bs apart none answer
