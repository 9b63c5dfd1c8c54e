-- Batches that stand for the rows of a table's splits, cut at the limit, are an answer.
use Rattle.std.proofs.Common.{◌≡◌, ◌∙◌, sym, ap, subst, refl, ℕ, zero, suc, ◌+◌, ◌-◌, ◌<◌, ◌≤◌, min, List, [], ◌∷◌, Bool, true, false, cond, ◌&&◌, eqb, length, map, take, drop, arith, inl, inr, ⊎_elim}
use Rattle.std.specs.Prelude.{◌⊎◌, ◌≢◌, Contains, None, Option, Some, count_by, slice_get, slice_index_or, unwrap_or}
use Rattle.std.specs.Coded.{Coded, codes}
use Rattle.std.specs.List.{AllZip, enumerate_from}
use Rattle.std.specs.List.Sorted.{IsPermutation}
use Rattle.std.proofs.lemmas.List.{take-map, take_all}
use Rattle.std.proofs.lemmas.List.Sorted.{sum_by-IsPermutation}
use Rattle.std.proofs.lemmas.List.Sums.{sum_by-cons}
use Rattle.vortex_array.specs.ColumnOf.{column_of}
use Rattle.vortex_array.specs.Head.{IsHeadOf}
use Rattle.vortex_array.specs.declared.arrays.Array.{Array}
use Rattle.vortex_array_types.specs.Row.{Column}
use Rattle.vortex_array_types.specs.contracts.scalar.Value as value
use Rattle.vortex_array_types.specs.contracts.types.DType as dtype
use Rattle.vortex_array_types.specs.declared.scalar.Value.{Value}
use Rattle.vortex_array_types.specs.declared.types.DType.{DType}
use Rattle.vortex_scan_types.specs.declared.batch.Batch.{Batch}
use Rattle.vortex_scan_types.specs.declared.batch.WorkScope.{WorkScope}
use Rattle.vortex_table_types.specs.Answers.{Answers, Asked, Given, IsBefore, IsPrefix, columns_of, count_of, within}
use Rattle.vortex_table_types.specs.Chosen.{Placed, rows_in}
use Rattle.vortex_table_types.specs.Turn.{given_of, in_turn}
use Rattle.vortex_table_types.proofs.Apart.{Past}
use Rattle.vortex_table_types.proofs.Rising.{Each, Rising, each_at, each_more, pairs, rising_map}
use Rattle.vortex_table_types.proofs.Tiling.{Tiles}
use Rattle.vortex_table_types.proofs.Turning.{turns, turns_all, turns_answer}
use Rattle.vortex_table_types.proofs.Whole.{count-is, counted}
use Rattle.vortex_table_scan.specs.Cut.{AreInOrder, CutAt, CutWithin, IsCutOf}
use Rattle.vortex_table_scan.specs.Gathering.{IsReached, rows_together}
use Rattle.vortex_table_scan.specs.Given.{given}
use Rattle.vortex_table_scan.proofs.InTurn.{follow, turn_counted, turn_each, turn_rises, turn_step, turns_none, turns_step, turns_within}
use Rattle.vortex_table_scan.proofs.Tallied.{IsAlike, IsWithin, apart_within, both_true, count_map, count_other, count_own, each_within, none_count, own_number, same_number, sorted_alike, sum_alike, sum_within}

-- ---- lists

each_of_map : {X Y : Type 0} (P : Y → Type 0) (f : X → Y) (xs : List X) → Each P (map f xs) → Each (λ x. P (f x)) xs
each_of_map P f [] all = tt
each_of_map P f (x ∷ xs) all = (all.0, each_of_map P f xs all.1)

map_each : {X Y : Type 0} (P : Y → Type 0) (f : X → Y) (xs : List X) → Each (λ x. P (f x)) xs → Each P (map f xs)
map_each P f [] all = tt
map_each P f (x ∷ xs) all = (all.0, map_each P f xs all.1)

rising_of_map : {X Y : Type 0} (R : Y → Y → Type 0) (f : X → Y) (xs : List X) → Rising R (map f xs) → Rising (λ x y. R (f x) (f y)) xs
rising_of_map R f [] all = tt
rising_of_map R f (x ∷ xs) all = (each_of_map (R (f x)) f xs all.0, rising_of_map R f xs all.1)

rising_more : {X : Type 0} (R Q : X → X → Type 0) → ((x y : X) → R x y → Q x y) → (xs : List X) → Rising R xs → Rising Q xs
rising_more R Q f [] all = tt
rising_more R Q f (x ∷ xs) all = (each_more (R x) (Q x) (f x) xs all.0, rising_more R Q f xs all.1)

each_contained : {X : Type 0} (xs : List X) → Each (λ x. Contains xs x) xs
each_contained [] = tt
each_contained (x ∷ xs) = ((0, omega arith, refl), each_more (λ y. Contains xs y) (λ y. Contains (x ∷ xs) y) (λ y c. (suc c.0, omega (arith, c.1), c.2)) xs (each_contained xs))

-- of elements that rise, one at most passes a test that no two of them pass
pub once : {X : Type 0} (test : X → Bool) (R : X → X → Type 0) → ((x y : X) → R x y → test x ≡ true → test y ≡ true → ⊥) → (xs : List X) → Rising R xs → count_by test xs ≤ 1
once test R clash [] rise = omega arith
once {X} test R clash (x ∷ xs) rise = by (test x) refl (once test R clash xs rise.1)
  where
    not_both : (y : X) → test x ≡ true → R x y → test y ≡ false
    not_both y e r = out (test y) refl
      where
        out : (b : Bool) → test y ≡ b → b ≡ false
        out true f = absurd (clash x y r e f)
        out false f = refl

    by : (b : Bool) → test x ≡ b → count_by test xs ≤ 1 → count_by test (x ∷ xs) ≤ 1
    by true e rest =
        let none = none_count test xs (each_more (R x) (λ y. test y ≡ false) (λ y r. not_both y e r) xs rise.0) in
        omega (arith, none, count_own test x xs e)
    by false e rest = omega (arith, rest, count_other test x xs e)

-- ---- batches by their codes

coded_given : Coded Given
coded_given = hlevel (codes, value.the_row.coded, dtype.the_row.coded)

-- ---- one batch, whole or cut

-- the first k rows of a column
abbrev first_rows : ℕ → Column → Column
first_rows k column = record { dtype = column.dtype; rows = take (k - 0) (drop 0 column.rows) }

heads : (k : ℕ) (wholes cuts : List Array) → AllZip (IsHeadOf k) wholes cuts → map column_of cuts ≡ map (first_rows k) (map column_of wholes)
heads k [] [] z = refl
heads k [] (c ∷ cuts) z = absurd z
heads k (w ∷ wholes) [] z = absurd z
heads k (w ∷ wholes) (c ∷ cuts) z = let rest = heads k wholes cuts z.1 in let one = z.0.rows in λ i. one i ∷ rest i

-- a cut batch, as it is given
cut_given : (k : ℕ) (whole cut : Batch) → IsCutOf k whole cut → given cut ≡ record { scope = whole.scope; rows = k; columns = map (first_rows k) (map column_of whole.array.columns) }
cut_given k whole cut c = let columns = heads k whole.array.columns cut.array.columns c.columns in let scope = c.scope in let count = c.count in λ i. record { scope = scope i; rows = count i; columns = columns i }

sliced_columns : (k : ℕ) (part : List Placed) (types : List (ℕ × DType))
    → map (first_rows k) (map (λ t. record { dtype = t.1; rows = map (λ (x : Placed). unwrap_or (slice_get x.values t.0) None) part }) types) ≡ map (λ t. record { dtype = t.1; rows = map (λ (x : Placed). unwrap_or (slice_get x.values t.0) None) (take k part) }) types
sliced_columns k part [] = refl
sliced_columns k part (t ∷ types) =
    let value_of : Placed → Option Value = λ x. unwrap_or (slice_get x.values t.0) None in
    let all : k - 0 ≡ k = omega arith in
    let rows : take (k - 0) (map value_of part) ≡ map value_of (take k part) = ap (λ n. take n (map value_of part)) all ∙ take-map value_of k part in
    let rest = sliced_columns k part types in
    λ i. record { dtype = t.1; rows = rows i } ∷ rest i

module _ (a : Asked) where
  -- a batch is that of its split with all rows there
  pub record IsFull (batch : Given) : Type 0 where
    pub is : batch ≡ given_of a.types batch.scope (rows_in batch.scope a.rows)
    pub some : 0 < length (rows_in batch.scope a.rows)
    pub named : Contains a.scopes batch.scope

  turn_full : Each IsFull (in_turn a.types a.rows a.scopes)
  turn_full = turn_each a.types a.rows (λ s. Contains a.scopes s) IsFull (λ s c more. record { is = refl; some = more; named = c }) a.scopes (each_contained a.scopes)

  -- what an answer says of each batch
  pub record IsPart (batch : Given) : Type 0 where
    pub filled : 0 < batch.rows
    pub named : Contains a.scopes batch.scope
    pub prefix : IsPrefix a batch

  full_part : (batch : Given) → IsFull batch → IsPart batch
  full_part batch f =
      let part : List Placed = rows_in batch.scope a.rows in
      let rows : batch.rows ≡ length part = ap (λ (b : Given). b.rows) f.is in
      record {
        filled = omega (arith, f.some, rows);
        named = f.named;
        prefix = record {
          rows = omega (arith, rows);
          columns = ap (λ (b : Given). b.columns) f.is ∙ ap (columns_of a.types) (sym (take_all batch.rows part (omega (arith, rows))));
        };
      }

  cut_part : (k : ℕ) (whole cut : Batch) → IsFull (given whole) → k ≢ 0 → k < whole.array.rows → IsCutOf k whole cut → IsPart (given cut)
  cut_part k whole cut f some less c =
      let part : List Placed = rows_in whole.scope a.rows in
      let rows : whole.array.rows ≡ length part = ap (λ (b : Given). b.rows) f.is in
      let columns : map column_of whole.array.columns ≡ columns_of a.types part = ap (λ (b : Given). b.columns) f.is in
      subst IsPart (sym (cut_given k whole cut c)) (record {
        filled = above k some;
        named = f.named;
        prefix = record {
          rows = omega (arith, less, rows);
          columns = ap (map (first_rows k)) columns ∙ sliced_columns k part (enumerate_from 0 a.types);
        };
      })
    where
      above : (n : ℕ) → n ≢ 0 → 0 < n
      above zero ne = absurd (ne refl)
      above (suc n) ne = omega arith

-- ---- batches cut at a limit

module _ (P Q : Batch → Type 0) (whole : (b : Batch) → P b → Q b) (cut : (k : ℕ) (b c : Batch) → P b → k ≢ 0 → k < b.array.rows → IsCutOf k b c → Q c) where
  at_each : (left : ℕ) (batches kept : List Batch) → CutAt left batches kept → Each P batches → Each Q kept
  at_each left [] kept at all = subst (Each Q) (sym at) tt
  at_each left (b ∷ batches) kept at all =
      ⊎_elim (λ none. subst (Each Q) (sym none.1) tt)
      (λ more. ⊎_elim
      (λ w. let rest = w.2 in subst (Each Q) (sym rest.1) (whole b all.0, at_each (left - b.array.rows) batches rest.0 rest.2 all.1))
      (λ p. let first = p.2 in subst (Each Q) (sym first.2) (cut left b first.0 all.0 p.0 p.1 first.1, tt)) more) at

  -- what whole batches have, and cut ones then too
  pub cut_each : (limit : Option ℕ) (batches kept : List Batch) → CutWithin limit batches kept → Each P batches → Each Q kept
  cut_each None batches kept at all = subst (Each Q) (sym at) (each_more P Q whole batches all)
  cut_each (Some left) batches kept at all = at_each left batches kept at all

module _ (R : Batch → Batch → Type 0) (cut : (k : ℕ) (a b c : Batch) → R a b → IsCutOf k b c → R a c) where
  at_rising : (left : ℕ) (batches kept : List Batch) → CutAt left batches kept → Rising R batches → Rising R kept
  at_rising left [] kept at all = subst (Rising R) (sym at) tt
  at_rising left (b ∷ batches) kept at all =
      ⊎_elim (λ none. subst (Rising R) (sym none.1) tt)
      (λ more. ⊎_elim
      (λ w.
      let rest = w.2 in
      subst (Rising R) (sym rest.1)
      (at_each (R b) (R b) (λ c r. r) (λ k c d r some less is. cut k b c d r is) (left - b.array.rows) batches rest.0 rest.2 all.0, at_rising (left - b.array.rows) batches rest.0 rest.2 all.1))
      (λ p. let first = p.2 in subst (Rising R) (sym first.2) (tt, tt)) more) at

  -- a relation of each to each later one stays
  pub cut_rising : (limit : Option ℕ) (batches kept : List Batch) → CutWithin limit batches kept → Rising R batches → Rising R kept
  cut_rising None batches kept at all = subst (Rising R) (sym at) all
  cut_rising (Some left) batches kept at all = at_rising left batches kept at all

-- the rows of batches together
rows_counted : (batches : List Batch) → counted (map given batches) ≡ rows_together batches
rows_counted [] = refl
rows_counted (b ∷ batches) = ap (λ n. b.array.rows + n) (rows_counted batches) ∙ sym (sum_by-cons (λ (c : Batch). c.array.rows) b batches)

-- and of those that are kept
cut_counted : (left : ℕ) (batches kept : List Batch) → CutAt left batches kept → counted (map given kept) ≡ min left (rows_together batches)
cut_counted left [] kept at = ap (λ list. counted (map given list)) at ∙ omega arith
cut_counted left (b ∷ batches) kept at =
    let both = sum_by-cons (λ (c : Batch). c.array.rows) b batches in
    ⊎_elim (λ none. ap (λ list. counted (map given list)) none.1 ∙ (let zero' = none.0 in omega (arith, zero')))
    (λ more. ⊎_elim
    (λ w.
    let rest = w.2 in
    let less = w.1 in
    let later = cut_counted (left - b.array.rows) batches rest.0 rest.2 in
    ap (λ list. counted (map given list)) rest.1 ∙ omega (arith, less, later, both))
    (λ p.
    let first = p.2 in
    let less = p.1 in
    let rows = first.1.count in
    ap (λ list. counted (map given list)) first.2 ∙ omega (arith, less, rows, both)) more) at

-- ---- batches that come in any order

-- whether two batches name one split, by its partition and its first row
abbrev names_one : Given → Given → Bool
names_one b c = eqb b.scope.file_ordinal c.scope.file_ordinal && eqb b.scope.rows.start c.scope.rows.start

names_own : (b : Given) → names_one b b ≡ true
names_own b = rw (own_number b.scope.file_ordinal) (own_number b.scope.rows.start)

one_named : (x b c : Given) → IsBefore b.scope c.scope → names_one x b ≡ true → names_one x c ≡ true → ⊥
one_named x b c before e f =
    let first = both_true (eqb x.scope.file_ordinal b.scope.file_ordinal) (eqb x.scope.rows.start b.scope.rows.start) e in
    let then = both_true (eqb x.scope.file_ordinal c.scope.file_ordinal) (eqb x.scope.rows.start c.scope.rows.start) f in
    let p = same_number x.scope.file_ordinal b.scope.file_ordinal first.0 in
    let q = same_number x.scope.file_ordinal c.scope.file_ordinal then.0 in
    let r = same_number x.scope.rows.start b.scope.rows.start first.1 in
    let s = same_number x.scope.rows.start c.scope.rows.start then.1 in
    ⊎_elim (λ l. omega (arith, l, p, q)) (λ l. let less = l.1 in omega (arith, less, r, s)) before

named_apart : (b c : Given) → names_one b c ≡ false → b.scope ≢ c.scope
named_apart b c apart same =
    let own : names_one b c ≡ true = subst (λ (s : WorkScope). (eqb b.scope.file_ordinal s.file_ordinal && eqb b.scope.rows.start s.rows.start) ≡ true) same (names_own b) in
    let clash : true ≡ false = sym own ∙ apart in
    cc

module _ (a : Asked) (rise : Rising Past a.scopes) (tiles : Tiles a.scopes a.rows) (gathered kept : List Batch) (inside : IsWithin (map given gathered) (in_turn a.types a.rows a.scopes)) where
  all_full : Each (λ (b : Batch). IsFull a (given b)) gathered
  all_full = each_of_map (IsFull a) given gathered (each_within coded_given (IsFull a) (map given gathered) (in_turn a.types a.rows a.scopes) inside (turn_full a))

  all_apart : Rising (λ (b c : Batch). b.scope ≢ c.scope) gathered
  all_apart =
      rising_more (λ (b c : Batch). names_one (given b) (given c) ≡ false) (λ (b c : Batch). b.scope ≢ c.scope) (λ b c e. named_apart (given b) (given c) e) gathered
      (rising_of_map (λ b c. names_one b c ≡ false) given gathered
      (apart_within coded_given names_one names_own (map given gathered) (in_turn a.types a.rows a.scopes)
      (λ x. once (names_one x) (λ b c. IsBefore b.scope c.scope) (λ b c before e f. one_named x b c before e f) (in_turn a.types a.rows a.scopes) (turn_rises a.types a.rows a.scopes rise tiles)) inside))

  no_more : rows_together gathered ≤ length a.rows
  no_more =
      let less = sum_within coded_given (λ (b : Given). b.rows) (map given gathered) (in_turn a.types a.rows a.scopes) inside in
      let all = turn_counted a.types a.rows a.scopes rise tiles in
      omega (arith, less, all, count-is (map given gathered), rows_counted gathered)

  all_rows : IsAlike (map given gathered) (in_turn a.types a.rows a.scopes) → rows_together gathered ≡ length a.rows
  all_rows alike =
      let same = sum_alike coded_given (λ (b : Given). b.rows) (map given gathered) (in_turn a.types a.rows a.scopes) alike in
      let all = turn_counted a.types a.rows a.scopes rise tiles in
      omega (arith, same, all, count-is (map given gathered), rows_counted gathered)

  kept_counted : (limit : Option ℕ) → CutWithin limit gathered kept → IsAlike (map given gathered) (in_turn a.types a.rows a.scopes) ⊎ IsReached limit gathered → count_of (map given kept) ≡ within limit (length a.rows)
  kept_counted None cut ends =
      ⊎_elim (λ alike. count-is (map given kept) ∙ ap (λ list. counted (map given list)) cut ∙ rows_counted gathered ∙ all_rows alike) (λ never. absurd never) ends
  kept_counted (Some limit) cut ends =
      let most = no_more in
      count-is (map given kept) ∙ cut_counted limit gathered kept cut
      ∙ ⊎_elim (λ alike. let all = all_rows alike in omega (arith, all)) (λ (reached : limit ≤ rows_together gathered). omega (arith, reached, most)) ends

  -- where no order is wanted, the batches that come are an answer
  pub unordered_answers : a.ordered ≡ false → CutWithin a.limit gathered kept → IsAlike (map given gathered) (in_turn a.types a.rows a.scopes) ⊎ IsReached a.limit gathered → Answers a (map given kept)
  unordered_answers free cut ends =
      let each : Each (λ (b : Batch). IsPart a (given b)) kept =
      cut_each (λ b. IsFull a (given b)) (λ b. IsPart a (given b)) (λ b f. full_part a (given b) f) (λ k b c f some less is. cut_part a k b c f some less is) a.limit gathered kept cut all_full in
      let all : Each (IsPart a) (map given kept) = map_each (IsPart a) given kept each in
      let apart = rising_map (λ (b c : Batch). b.scope ≢ c.scope) (λ (b c : Given). b.scope ≢ c.scope) given (λ b c ne. ne) kept
      (cut_rising (λ (b c : Batch). b.scope ≢ c.scope) (λ k b c d ne is same. ne (same ∙ is.scope)) a.limit gathered kept cut all_apart) in
      record {
        filled = each_at (λ b. 0 < b.rows) (map given kept) (each_more (IsPart a) (λ b. 0 < b.rows) (λ b p. p.filled) (map given kept) all);
        named = each_at (λ b. Contains a.scopes b.scope) (map given kept) (each_more (IsPart a) (λ b. Contains a.scopes b.scope) (λ b p. p.named) (map given kept) all);
        distinct = pairs (λ (b c : Given). b.scope ≢ c.scope) (map given kept) apart;
        prefixes = each_at (IsPrefix a) (map given kept) (each_more (IsPart a) (IsPrefix a) (λ b p. p.prefix) (map given kept) all);
        counted = kept_counted a.limit cut ends;
        in_order = λ wanted. absurd (let clash : true ≡ false = sym wanted ∙ free in cc);
      }

-- ---- batches in order

-- no earlier scope than another
abbrev NotAfter : Given → Given → Type 0
NotAfter b c = (b.scope.file_ordinal < c.scope.file_ordinal) ⊎ ((b.scope.file_ordinal ≡ c.scope.file_ordinal) × (b.scope.rows.start ≤ c.scope.rows.start))

after_on : (b c d : Given) → NotAfter b c → NotAfter c d → NotAfter b d
after_on b c d first then =
    ⊎_elim (λ l. ⊎_elim (λ m. inl (omega (arith, l, m))) (λ m. let e = m.0 in inl (omega (arith, l, e))) then)
    (λ l. let e = l.0 in let le = l.1 in ⊎_elim (λ m. inl (omega (arith, e, m))) (λ m. let f = m.0 in let le' = m.1 in inr (omega (arith, e, f), omega (arith, le, le'))) then) first

not_before : (b c : Given) → IsBefore b.scope c.scope → NotAfter c b → ⊥
not_before b c before after =
    ⊎_elim (λ l. ⊎_elim (λ m. omega (arith, l, m)) (λ m. let e = m.0 in omega (arith, l, e)) after)
    (λ l. let e = l.0 in let less = l.1 in ⊎_elim (λ m. omega (arith, e, m)) (λ m. let le = m.1 in omega (arith, less, le)) after) before

behind_first : (b : Batch) (batches : List Batch) → AreInOrder (b ∷ batches) → AreInOrder batches
behind_first b batches order k d less =
    let e : suc k + 1 ≡ suc (k + 1) = omega arith in
    let at = order (suc k) d (omega (arith, less)) in
    subst (λ n. NotAfter (given (slice_index_or (b ∷ batches) (suc k) d)) (given (slice_index_or (b ∷ batches) n d))) e at

in_order_rises : (batches : List Batch) → AreInOrder batches → Rising NotAfter (map given batches)
in_order_rises [] order = tt
in_order_rises (b ∷ batches) order = (first batches order (in_order_rises batches (behind_first b batches order)), in_order_rises batches (behind_first b batches order))
  where
    first : (later : List Batch) → AreInOrder (b ∷ later) → Rising NotAfter (map given later) → Each (NotAfter (given b)) (map given later)
    first [] o rise = tt
    first (c ∷ later) o rise =
        let next : NotAfter (given b) (given c) = o 0 b (omega arith) in
        (next, each_more (NotAfter (given c)) (NotAfter (given b)) (λ d after. after_on (given b) (given c) d next after) (map given later) rise.0)

-- the head and the tail of equal lists
heads_same : {X : Type 0} (x y : X) (xs ys : List X) → x ∷ xs ≡ y ∷ ys → (x ≡ y) × (xs ≡ ys)
heads_same x y xs ys e = (cc, cc)

module _ (types : List DType) (rows : List Placed) where
  long_as : (n : ℕ) (part : List Placed) → n ≤ length part → suc n ≡ suc (length (take n part))
  long_as zero part less = refl
  long_as (suc n) [] less = absurd (omega (arith, less))
  long_as (suc n) (y ∷ part) less = ap suc (long_as n part (omega (arith, less)))

  -- the batch of a split, cut
  cut_here : (s : WorkScope) (scopes : List WorkScope) (kept : List Batch) (x : Placed) (part : List Placed) → rows_in s rows ≡ x ∷ part → (b : Batch) (n : ℕ) → n ≢ 0 → n < length (x ∷ part) → given b ≡ given_of types s (x ∷ part)
      → (first : Batch) → IsCutOf n b first → kept ≡ first ∷ [] → map given kept ≡ turns types rows n (s ∷ scopes)
  cut_here s scopes kept x part p b zero ne less is first cut e = absurd (ne refl)
  cut_here s scopes kept x part p b (suc n) ne less is first cut e =
      let taken : take (suc n) (rows_in s rows) ≡ x ∷ take n part = ap (take (suc n)) p in
      let none : suc n - length (rows_in s rows) ≡ 0 = omega (arith, less, ap length p) in
      let columns : map column_of b.array.columns ≡ columns_of types (x ∷ part) = ap (λ (g : Given). g.columns) is in
      let scope : b.scope ≡ s = ap (λ (g : Given). g.scope) is in
      let kept_columns : map (first_rows (suc n)) (map column_of b.array.columns) ≡ columns_of types (x ∷ take n part) = ap (map (first_rows (suc n))) columns ∙ sliced_columns (suc n) (x ∷ part) (enumerate_from 0 types) in
      let count : suc n ≡ length (x ∷ take n part) = long_as n part (omega (arith, less)) in
      let turned : ◌≡◌ {A = Given} (record { scope = b.scope; rows = suc n; columns = map (first_rows (suc n)) (map column_of b.array.columns) }) (given_of types s (x ∷ take n part)) =
      λ i. record { scope = scope i; rows = count i; columns = kept_columns i } in
      let one : given first ≡ given_of types s (x ∷ take n part) = cut_given (suc n) b first cut ∙ turned in
      let single : map given (first ∷ []) ≡ given_of types s (x ∷ take n part) ∷ [] = ap (λ g. g ∷ []) one in
      ap (map given) e ∙ single ∙ sym (turns_step types rows (suc n) s scopes (x ∷ take n part) taken ∙ ap (λ m. given_of types s (x ∷ take n part) ∷ turns types rows m scopes) none
      ∙ ap (λ rest. given_of types s (x ∷ take n part) ∷ rest) (turns_none types rows scopes))

  -- what is to be shown of these splits, at a limit
  abbrev Cuts : List WorkScope → ℕ → Type 0
  Cuts scopes n = (batches kept : List Batch) → map given batches ≡ in_turn types rows scopes → CutAt n batches kept → map given kept ≡ turns types rows n scopes

  -- where the first split has rows
  with_part : (limit : ℕ) (s : WorkScope) (scopes : List WorkScope) (kept : List Batch) (x : Placed) (part : List Placed) → rows_in s rows ≡ x ∷ part → (list : List Batch) → map given list ≡ given_of types s (x ∷ part) ∷ in_turn types rows scopes
      → CutAt limit list kept → ((n : ℕ) → Cuts scopes n) → map given kept ≡ turns types rows limit (s ∷ scopes)
  with_part limit s scopes kept x part p [] f at later = absurd (cc)
  with_part limit s scopes kept x part p (b ∷ list) f at later =
      let both = heads_same (given b) (given_of types s (x ∷ part)) (map given list) (in_turn types rows scopes) f in
      let rows' : b.array.rows ≡ length (x ∷ part) = ap (λ (g : Given). g.rows) both.0 in
      let long : length (rows_in s rows) ≡ length (x ∷ part) = ap length p in
      ⊎_elim
      (λ none. ap (map given) none.1 ∙ sym (ap (λ n. turns types rows n (s ∷ scopes)) none.0 ∙ turns_none types rows (s ∷ scopes)))
      (λ more. ⊎_elim
      (λ w.
      let rest = w.2 in
      let less = w.1 in
      let taken : take limit (rows_in s rows) ≡ x ∷ part = ap (take limit) p ∙ take_all limit (x ∷ part) (omega (arith, less, rows')) in
      let left : limit - b.array.rows ≡ limit - length (rows_in s rows) = omega (arith, rows', long) in
      let tail = later (limit - b.array.rows) list rest.0 both.1 rest.2 in
      let joined : map given (b ∷ rest.0) ≡ given_of types s (x ∷ part) ∷ turns types rows (limit - b.array.rows) scopes = λ i. both.0 i ∷ tail i in
      ap (map given) rest.1 ∙ joined ∙ ap (λ n. given_of types s (x ∷ part) ∷ turns types rows n scopes) left ∙ sym (turns_step types rows limit s scopes (x ∷ part) taken))
      (λ q. let first = q.2 in let less = q.1 in cut_here s scopes kept x part p b limit q.0 (omega (arith, less, rows')) both.0 first.0 first.1 first.2) more) at

  -- batches in turn, cut at a limit, are the batches in turn up to it
  turns_cut : (scopes : List WorkScope) (limit : ℕ) → Cuts scopes limit
  turns_cut [] limit [] kept e at = ap (map given) at
  turns_cut [] limit (b ∷ batches) kept e at = absurd (cc)
  turns_cut (s ∷ scopes) limit batches kept e at = by (rows_in s rows) refl batches (e ∙ turn_step types rows s scopes) at (turns_cut scopes)
    where
      by : (part : List Placed) → rows_in s rows ≡ part → (list : List Batch) → map given list ≡ follow types s part (in_turn types rows scopes) → CutAt limit list kept → ((n : ℕ) → Cuts scopes n)
          → map given kept ≡ turns types rows limit (s ∷ scopes)
      by [] p list f at' later =
          let none : take limit (rows_in s rows) ≡ [] = ap (take limit) p ∙ take_all limit [] (omega arith) in
          let all : limit ≡ limit - length (rows_in s rows) = omega (arith, ap length p) in
          later limit list kept f at' ∙ ap (λ n. turns types rows n scopes) all ∙ sym (turns_step types rows limit s scopes [] none)
      by (x ∷ part) p list f at' later = with_part limit s scopes kept x part p list f at' later

module _ (a : Asked) (rise : Rising Past a.scopes) (tiles : Tiles a.scopes a.rows) (sorted kept : List Batch) (order : AreInOrder sorted) (alike : IsAlike (map given sorted) (in_turn a.types a.rows a.scopes)) where
  sorted_turn : map given sorted ≡ in_turn a.types a.rows a.scopes
  sorted_turn =
      sorted_alike coded_given NotAfter (λ b c. IsBefore b.scope c.scope) (λ b c before after. not_before b c before after) (map given sorted) (in_turn a.types a.rows a.scopes)
      (in_order_rises sorted order) (turn_rises a.types a.rows a.scopes rise tiles) alike

  kept_turns : (limit : Option ℕ) → CutWithin limit sorted kept → map given kept ≡ turns a.types a.rows (within limit (length a.rows)) a.scopes
  kept_turns None cut = ap (map given) cut ∙ sorted_turn ∙ sym (turns_all a.types a.rows (length a.rows) a.scopes (omega (arith, ap length tiles)))
  kept_turns (Some limit) cut = turns_cut a.types a.rows a.scopes limit sorted kept sorted_turn cut ∙ ⊎_elim near far (cases limit (length a.rows))
    where
      cases : (m n : ℕ) → (m ≤ n) ⊎ (n ≤ m)
      cases zero n = inl (omega arith)
      cases (suc m) zero = inr (omega arith)
      cases (suc m) (suc n) = ⊎_elim (λ l. inl (omega (arith, l))) (λ l. inr (omega (arith, l))) (cases m n)

      near : limit ≤ length a.rows → turns a.types a.rows limit a.scopes ≡ turns a.types a.rows (min limit (length a.rows)) a.scopes
      near less = let e : limit ≡ min limit (length a.rows) = omega (arith, less) in ap (λ n. turns a.types a.rows n a.scopes) e

      far : length a.rows ≤ limit → turns a.types a.rows limit a.scopes ≡ turns a.types a.rows (min limit (length a.rows)) a.scopes
      far most = let e : length a.rows ≡ min limit (length a.rows) = omega (arith, most) in turns_within a.types a.rows limit a.scopes tiles most ∙ ap (λ n. turns a.types a.rows n a.scopes) e

  -- all batches in order, cut at the limit, are an answer
  pub ordered_answers : CutWithin a.limit sorted kept → Answers a (map given kept)
  ordered_answers cut = subst (Answers a) (sym (kept_turns a.limit cut)) (turns_answer a rise tiles)

-- what is put in another order is alike
pub permuted_alike : (batches sorted : List Batch) (others : List Given) → IsPermutation batches sorted → IsAlike (map given batches) others → IsAlike (map given sorted) others
permuted_alike batches sorted others same alike test =
    count_map test given sorted ∙ sum_by-IsPermutation (λ (b : Batch). cond (test (given b)) 1 0) batches sorted same ∙ sym (count_map test given batches) ∙ alike test
