-- The batches in turn, up to the limit, are an answer.
use Rattle.std.proofs.Common.{◌≡◌, ◌∙◌, sym, ap, subst, refl, ℕ, zero, suc, ◌+◌, ◌-◌, ◌<◌, ◌≤◌, List, [], ◌∷◌, ◌++◌, Bool, true, false, cond, length, take, map, arith, inl, inr}
use mathlib.Core.Logic.{⊎_elim}
use Rattle.std.specs.Prelude.{AllPairs, Contains, Option, Some, None, nat_lt, filter, flat_map, ◌≢◌}
use Rattle.std.specs.List.{AllZip}
use Rattle.std.proofs.lemmas.List.{length-append, length-take, take_all}
use Rattle.vortex_array_types.specs.declared.types.DType.{DType}
use Rattle.vortex_array_types.specs.declared.column.ColumnDesc.{ColumnDesc}
use Rattle.vortex_table_types.specs.declared.describe.PartitionDesc.{PartitionDesc}
use Rattle.vortex_scan_types.specs.declared.batch.WorkScope.{WorkScope}
use Rattle.vortex_scan_types.specs.declared.request.ScanRequest.{ScanRequest}
use Rattle.vortex_table_types.specs.Table.{Content, FitsPartition, decoded, scopes_from}
use Rattle.vortex_table_types.specs.Chosen.{Placed, chosen, lies_in, projected_types, rows_in}
use Rattle.vortex_table_types.specs.Answers.{Answers, Asked, Given, IsBefore, IsPrefix, asked, columns_of, count_of, stands_for, within}
use Rattle.vortex_table_types.specs.Laws.{EachQuestionHasAnAnswer}
use Rattle.vortex_table_types.specs.Turn.{given_of, in_turn}
use Rattle.vortex_table_types.proofs.Rising.{Each, Rising, each_at, each_more, pairs}
use Rattle.vortex_table_types.proofs.Apart.{Past, Within, scopes_rise, within as lies_within}
use Rattle.vortex_table_types.proofs.Whole.{count-is, counted}
use Rattle.vortex_table_types.proofs.Tiling.{Tiles, chosen_tiled}

-- ---- lists

-- as many as were taken
taken : {X : Type 0} (n : ℕ) (xs : List X) → take (length (take n xs)) xs ≡ take n xs
taken zero xs = refl
taken (suc n) [] = refl
taken (suc n) (x ∷ xs) = ap (λ r. x ∷ r) (taken n xs)

-- what is taken of the first list, and then of the second
take_both : {X : Type 0} (n : ℕ) (xs ys : List X) → take n (xs ++ ys) ≡ take n xs ++ take (n - length xs) ys
take_both zero [] ys = refl
take_both (suc n) [] ys = let e : suc n ≡ suc n - 0 = omega arith in ap (λ k. take k ys) e
take_both zero (x ∷ xs) ys = let e : 0 ≡ 0 - suc (length xs) = omega arith in ap (λ k. take k ys) e
take_both (suc n) (x ∷ xs) ys = let e : n - length xs ≡ suc n - suc (length xs) = omega arith in ap (λ r. x ∷ r) (take_both n xs ys ∙ ap (λ k. take n xs ++ take k ys) e)

-- a successor is above zero
positive : (n : ℕ) → nat_lt 0 (suc n) ≡ true
positive n = grind arith

-- each element of a list is in it
each_contained : {X : Type 0} (xs : List X) → Each (λ x. Contains xs x) xs
each_contained [] = tt
each_contained (x ∷ xs) = ((0, omega arith, refl), each_more (λ y. Contains xs y) (λ y. Contains (x ∷ xs) y) (λ y c. (suc c.0, omega (arith, c.1), c.2)) xs (each_contained xs))

-- ---- scopes

-- a split with rows ends behind its start
has_rows : (s : WorkScope) (rows : List Placed) → 0 < length (rows_in s rows) → s.rows.start < s.rows.end
has_rows s [] h = absurd (omega (arith, h))
has_rows s (x ∷ rows) h = by (lies_in s x) refl (has_rows s rows) h
  where
    by : (b : Bool) → lies_in s x ≡ b → (0 < length (rows_in s rows) → s.rows.start < s.rows.end) → 0 < length (cond b (x ∷ rows_in s rows) (rows_in s rows)) → s.rows.start < s.rows.end
    by true e f h = let w : Within s x = lies_within s x e in omega (arith, w.from, w.below)
    by false e f h = f h

-- of a split with rows: it stands before those behind its end
before_past : (s t : WorkScope) → s.rows.start < s.rows.end → Past s t → IsBefore s t
before_past s t h p = ⊎_elim (λ l. inl l) (λ l. inr (l.0, omega (arith, h, l.1))) p

-- no split stands before itself
not_before : (s : WorkScope) → IsBefore s s → ⊥
not_before s p = ⊎_elim (λ l. omega (arith, l)) (λ l. omega (arith, l.1)) p

-- a split is none of those that it stands before
before_apart : (s t : WorkScope) → IsBefore s t → s ≢ t
before_apart s t p e = not_before t (subst (λ u. IsBefore u t) e p)

-- ---- the batches in turn

module _ (types : List DType) (rows : List Placed) where
  -- a batch of these rows of the split, if there are any
  abbrev next : WorkScope → List Placed → List Given → List Given
  next s [] rest = rest
  next s (x ∷ part) rest = given_of types s (x ∷ part) ∷ rest

  -- the batches in turn, of n rows together, the last one cut
  abbrev pub turns : ℕ → List WorkScope → List Given
  turns n [] = []
  turns n (s ∷ scopes) = next s (take n (rows_in s rows)) (turns (n - length (rows_in s rows)) scopes)

  -- a test for rows and then the batch of all of them: the next batch
  all_of : (s : WorkScope) (scopes : List WorkScope) (part : List Placed) → part ≡ rows_in s rows
      → map (λ t. given_of types t (rows_in t rows)) (cond (nat_lt 0 (length part)) (s ∷ filter (λ t. nat_lt 0 (length (rows_in t rows))) scopes) (filter (λ t. nat_lt 0 (length (rows_in t rows))) scopes))
      ≡ next s part (in_turn types rows scopes)
  all_of s scopes [] e = refl
  all_of s scopes (x ∷ part) e =
      let others : List WorkScope = filter (λ t. nat_lt 0 (length (rows_in t rows))) scopes in
      ap (λ b. map (λ t. given_of types t (rows_in t rows)) (cond b (s ∷ others) others)) (positive (length part)) ∙ ap (λ p. given_of types s p ∷ in_turn types rows scopes) (sym e)

  -- where no row is cut off, they are the batches with all rows
  pub turns_all : (n : ℕ) (scopes : List WorkScope) → length (flat_map (λ s. rows_in s rows) scopes) ≤ n → turns n scopes ≡ in_turn types rows scopes
  turns_all n [] h = refl
  turns_all n (s ∷ scopes) h =
      let e : length (rows_in s rows ++ flat_map (λ t. rows_in t rows) scopes) ≡ length (rows_in s rows) + length (flat_map (λ t. rows_in t rows) scopes) = length-append (rows_in s rows) (flat_map (λ t. rows_in t rows) scopes) in
      ap (λ p. next s p (turns (n - length (rows_in s rows)) scopes)) (take_all n (rows_in s rows) (omega (arith, e, h)))
      ∙ ap (λ r. next s (rows_in s rows) r) (turns_all (n - length (rows_in s rows)) scopes (omega (arith, e, h)))
      ∙ sym (all_of s scopes (rows_in s rows) refl)

  -- what holds of the scopes holds of those of the batches
  scopes_kept : (P : WorkScope → Type 0) (n : ℕ) (scopes : List WorkScope) → Each P scopes → Each (λ b. P b.scope) (turns n scopes)
  scopes_kept P n [] e = tt
  scopes_kept P n (s ∷ scopes) e = by (take n (rows_in s rows)) (scopes_kept P (n - length (rows_in s rows)) scopes e.1)
    where
      by : (part : List Placed) → Each (λ b. P b.scope) (turns (n - length (rows_in s rows)) scopes) → Each (λ b. P b.scope) (next s part (turns (n - length (rows_in s rows)) scopes))
      by [] f = f
      by (x ∷ part) f = (e.0, f)

  -- each batch has a row
  turns_filled : (n : ℕ) (scopes : List WorkScope) → Each (λ b. 0 < b.rows) (turns n scopes)
  turns_filled n [] = tt
  turns_filled n (s ∷ scopes) = by (take n (rows_in s rows)) (turns_filled (n - length (rows_in s rows)) scopes)
    where
      by : (part : List Placed) → Each (λ b. 0 < b.rows) (turns (n - length (rows_in s rows)) scopes) → Each (λ b. 0 < b.rows) (next s part (turns (n - length (rows_in s rows)) scopes))
      by [] f = f
      by (x ∷ part) f = (omega arith, f)

  -- the batches stand in order
  turns_rise : (n : ℕ) (scopes : List WorkScope) → Rising Past scopes → Rising (λ b c. IsBefore b.scope c.scope) (turns n scopes)
  turns_rise n [] r = tt
  turns_rise n (s ∷ scopes) r = by (take n (rows_in s rows)) refl (turns_rise (n - length (rows_in s rows)) scopes r.1)
    where
      by : (part : List Placed) → part ≡ take n (rows_in s rows) → Rising (λ b c. IsBefore b.scope c.scope) (turns (n - length (rows_in s rows)) scopes)
          → Rising (λ b c. IsBefore b.scope c.scope) (next s part (turns (n - length (rows_in s rows)) scopes))
      by [] e f = f
      by (x ∷ part) e f =
          let some : 0 < length (rows_in s rows) = omega (arith, ap length e, length-take n (rows_in s rows)) in
          (scopes_kept (IsBefore s) (n - length (rows_in s rows)) scopes (each_more (Past s) (IsBefore s) (λ t p. before_past s t (has_rows s rows some) p) scopes r.0), f)

  -- a batch stands for the rows that it was made of
  stands : (n : ℕ) (s : WorkScope) (part : List Placed) → part ≡ take n (rows_in s rows) → take (length part) (rows_in s rows) ≡ part
  stands n s part e = ap (λ p. take (length p) (rows_in s rows)) e ∙ taken n (rows_in s rows) ∙ sym e

  -- joined they are the first n rows
  turns_joined : (n : ℕ) (scopes : List WorkScope) → flat_map (stands_for rows) (turns n scopes) ≡ take n (flat_map (λ s. rows_in s rows) scopes)
  turns_joined zero [] = refl
  turns_joined (suc n) [] = refl
  turns_joined n (s ∷ scopes) =
      by (take n (rows_in s rows)) refl (turns (n - length (rows_in s rows)) scopes)
      ∙ ap (λ r. take n (rows_in s rows) ++ r) (turns_joined (n - length (rows_in s rows)) scopes)
      ∙ sym (take_both n (rows_in s rows) (flat_map (λ t. rows_in t rows) scopes))
    where
      by : (part : List Placed) → part ≡ take n (rows_in s rows) → (rest : List Given) → flat_map (stands_for rows) (next s part rest) ≡ part ++ flat_map (stands_for rows) rest
      by [] e rest = refl
      by (x ∷ part) e rest = ap (λ p. p ++ flat_map (stands_for rows) rest) (stands n s (x ∷ part) e)

module _ (a : Asked) where
  -- each batch is a prefix of the rows of L in its split
  turns_prefix : (n : ℕ) (scopes : List WorkScope) → Each (λ b. IsPrefix a b) (turns a.types a.rows n scopes)
  turns_prefix n [] = tt
  turns_prefix n (s ∷ scopes) = by (take n (rows_in s a.rows)) refl (turns_prefix (n - length (rows_in s a.rows)) scopes)
    where
      by : (part : List Placed) → part ≡ take n (rows_in s a.rows) → Each (λ b. IsPrefix a b) (turns a.types a.rows (n - length (rows_in s a.rows)) scopes)
          → Each (λ b. IsPrefix a b) (next a.types a.rows s part (turns a.types a.rows (n - length (rows_in s a.rows)) scopes))
      by [] e f = f
      by (x ∷ part) e f = (
        record {
          rows = omega (arith, ap length e, length-take n (rows_in s a.rows));
          columns = ap (columns_of a.types) (sym (stands a.types a.rows n s (x ∷ part) e));
        },
        f,
      )

  -- such batches have as many rows together as they stand for
  prefixes_counted : (bs : List Given) → Each (λ b. IsPrefix a b) bs → counted bs ≡ length (flat_map (stands_for a.rows) bs)
  prefixes_counted [] e = refl
  prefixes_counted (b ∷ bs) e =
      let k : b.rows ≤ length (rows_in b.scope a.rows) = e.0.rows in
      omega (arith, prefixes_counted bs e.1, length-append (stands_for a.rows b) (flat_map (stands_for a.rows) bs), length-take b.rows (rows_in b.scope a.rows), k)

  -- a limit raises no number
  within_length : (o : Option ℕ) (n : ℕ) → within o n ≤ n
  within_length None n = omega arith
  within_length (Some m) n = omega arith

  -- the batches in turn, as far as the limit goes, are an answer
  pub turns_answer : Rising Past a.scopes → Tiles a.scopes a.rows → Answers a (turns a.types a.rows (within a.limit (length a.rows)) a.scopes)
  turns_answer rise tiles =
      let n : ℕ = within a.limit (length a.rows) in
      let bs : List Given = turns a.types a.rows n a.scopes in
      let prefixes : Each (λ b. IsPrefix a b) bs = turns_prefix n a.scopes in
      let joined : flat_map (stands_for a.rows) bs ≡ take n a.rows = turns_joined a.types a.rows n a.scopes ∙ ap (take n) tiles in
      let ascending : AllPairs (λ b c. IsBefore b.scope c.scope) bs = pairs (λ b c. IsBefore b.scope c.scope) bs (turns_rise a.types a.rows n a.scopes rise) in
      let all : count_of bs ≡ n = count-is bs ∙ prefixes_counted bs prefixes ∙ ap length joined ∙ omega (arith, length-take n a.rows, within_length a.limit (length a.rows)) in
      record {
        filled = each_at (λ b. 0 < b.rows) bs (turns_filled a.types a.rows n a.scopes);
        named = each_at (λ b. Contains a.scopes b.scope) bs (scopes_kept a.types a.rows (λ s. Contains a.scopes s) n a.scopes (each_contained a.scopes));
        distinct = λ i j d l h. before_apart _ _ (ascending i j d l h);
        prefixes = each_at (λ b. IsPrefix a b) bs prefixes;
        counted = all;
        in_order = λ o. record { ascending = ascending; joined = joined ∙ ap (λ k. take k a.rows) (sym all) };
      }

-- and so every question from a table has an answer
pub has_answer : EachQuestionHasAnAnswer
has_answer columns partitions contents request fits =
    let a : Asked = asked columns partitions contents request in
    (turns a.types a.rows (within a.limit (length a.rows)) a.scopes, turns_answer a (scopes_rise 0 partitions) (chosen_tiled columns partitions contents request fits))

-- without a limit one batch for each split that has chosen rows, in order and with all of them, is an answer
pub in_turn_answers : (columns : List ColumnDesc) (partitions : List PartitionDesc) (contents : List Content) (request : ScanRequest) → AllZip FitsPartition partitions contents → request.limit ≡ None
    → Answers (asked columns partitions contents request) (in_turn (projected_types columns request.projection) (chosen request (decoded columns partitions contents)) (scopes_from 0 partitions))
in_turn_answers columns partitions contents request fits none =
    let a : Asked = asked columns partitions contents request in
    let n : ℕ = within a.limit (length a.rows) in
    let tiles : Tiles a.scopes a.rows = chosen_tiled columns partitions contents request fits in
    let all : n ≡ length a.rows = ap (λ l. within l (length a.rows)) none in
    subst (Answers a) (turns_all a.types a.rows n a.scopes (omega (arith, ap length tiles, all))) (turns_answer a (scopes_rise 0 partitions) tiles)
