-- What the loops over columns and splits have after one more step.
use Rattle.std.proofs.Common.{◌≡◌, ◌∙◌, sym, ap, refl, ℕ, zero, suc, ◌+◌, ◌-◌, ◌<◌, ◌≤◌, List, [], ◌∷◌, ◌++◌, Bool, true, false, cond, length, map, take, get_or, arith}
use Rattle.std.specs.Prelude.{Option, ◌||◌, filter, is_none, sum_by}
use Rattle.std.specs.List.{enumerate_from, list_any, range_with_len}
use Rattle.std.proofs.lemmas.List.Elements.{filter-append}
use Rattle.std.proofs.lemmas.List.Sums.{sum_by-cons}
use Rattle.std.proofs.lemmas.List.{map-append, take_more}
use Rattle.vortex_array_types.specs.declared.column.ColumnDesc.{ColumnDesc}
use Rattle.vortex_scan_types.specs.declared.batch.WorkScope.{WorkScope}
use Rattle.std.specs.Str.{bytes_eq}
use Rattle.vortex_table_chunks.specs.declared.chunk.Chunk.{Chunk}
use Rattle.vortex_table_types.specs.Table.{split_scopes}
use Rattle.vortex_table_types.specs.declared.describe.SplitDesc.{SplitDesc}
use Rattle.vortex_table_planner.specs.Live.{columns_named, is_needed, numbered}
use Rattle.vortex_table_planner.specs.Morsels.{is_missing}
use Rattle.vortex_table_planner.specs.declared.live.LiveSplit.{LiveSplit}

-- ---- numbered lists

numbered_more : {X : Type 0} (n : ℕ) (xs ys : List X) → enumerate_from n (xs ++ ys) ≡ enumerate_from n xs ++ enumerate_from (n + length xs) ys
numbered_more n [] ys = let e : n ≡ n + 0 = omega arith in ap (λ (i : ℕ). enumerate_from i ys) e
numbered_more n (x ∷ xs) ys = let e : n + 1 + length xs ≡ n + suc (length xs) = omega arith in ap (λ rest. (n, x) ∷ rest) (numbered_more (n + 1) xs ys ∙ ap (λ (i : ℕ). enumerate_from (n + 1) xs ++ enumerate_from i ys) e)

length_take : {X : Type 0} (i : ℕ) (xs : List X) → i ≤ length xs → length (take i xs) ≡ i
length_take zero xs h = refl
length_take (suc i) [] h = absurd (omega (arith, h))
length_take (suc i) (x ∷ xs) h = ap suc (length_take i xs (omega (arith, h)))

-- ---- needed columns

-- one more column is named or not
pub columns_more : (names : List (List ℕ)) (columns : List ColumnDesc) (i : ℕ) (d : ColumnDesc) → i < length columns
    → columns_named (take (i + 1) columns) names ≡ columns_named (take i columns) names ++ cond (is_needed names (get_or columns i d)) (i ∷ []) []
columns_more names columns i d h =
    let test : ℕ × ColumnDesc → Bool = λ x. is_needed names x.1 in
    let column : ColumnDesc = get_or columns i d in
    ap (λ (some : List ColumnDesc). columns_named some names) (take_more columns i d h)
    ∙ ap (λ (some : List (ℕ × ColumnDesc)). map (λ (x : ℕ × ColumnDesc). x.0) (filter test some)) (numbered_more 0 (take i columns) (column ∷ []))
    ∙ ap (λ (some : List (ℕ × ColumnDesc)). map (λ (x : ℕ × ColumnDesc). x.0) some) (filter-append test (enumerate_from 0 (take i columns)) (enumerate_from (0 + length (take i columns)) (column ∷ [])))
    ∙ map-append (λ (x : ℕ × ColumnDesc). x.0) (filter test (enumerate_from 0 (take i columns))) (filter test (enumerate_from (0 + length (take i columns)) (column ∷ [])))
    ∙ ap (λ (some : List ℕ). columns_named (take i columns) names ++ some) (one (is_needed names column) (0 + length (take i columns)) (length_take i columns (omega (arith, h))))
  where
    one : (b : Bool) (n : ℕ) → length (take i columns) ≡ i → map (λ (x : ℕ × ColumnDesc). x.0) (cond b ((0 + length (take i columns), get_or columns i d) ∷ []) []) ≡ cond b (i ∷ []) []
    one true n e = let f : 0 + length (take i columns) ≡ i = omega (arith, e) in ap (λ (k : ℕ). k ∷ []) f
    one false n e = refl

-- ---- splits

scopes_more : (p start : ℕ) (xs : List SplitDesc) (split : SplitDesc) → split_scopes p start (xs ++ split ∷ [])
    ≡ split_scopes p start xs ++ (record { file_ordinal = p; rows = record { start = start + sum_by (λ s. s.rows) xs; end = start + sum_by (λ s. s.rows) xs + split.rows } }) ∷ []
scopes_more p start [] split = let e : start ≡ start + 0 = omega arith in ap (λ (from : ℕ). (record { file_ordinal = p; rows = record { start = from; end = from + split.rows } }) ∷ []) e
scopes_more p start (x ∷ xs) split =
    let e : start + x.rows + sum_by (λ s. s.rows) xs ≡ start + sum_by (λ s. s.rows) (x ∷ xs) = let c = sum_by-cons (λ (s : SplitDesc). s.rows) x xs in omega (arith, c) in
    ap (λ (rest : List WorkScope). (record { file_ordinal = p; rows = record { start = start; end = start + x.rows } }) ∷ rest)
    (scopes_more p (start + x.rows) xs split ∙ ap (λ (from : ℕ). split_scopes p (start + x.rows) xs ++ (record { file_ordinal = p; rows = record { start = from; end = from + split.rows } }) ∷ []) e)

length_scopes : (p start : ℕ) (xs : List SplitDesc) → length (split_scopes p start xs) ≡ length xs
length_scopes p start [] = refl
length_scopes p start (x ∷ xs) = ap suc (length_scopes p (start + x.rows) xs)

-- one more split is live or not
splits_more : (test : LiveSplit → Bool) (p : ℕ) (splits : List SplitDesc) (i : ℕ) (d : SplitDesc) → i < length splits
    → let live : LiveSplit = record { split = i; scope = record { file_ordinal = p; rows = record { start = sum_by (λ s. s.rows) (take i splits); end = sum_by (λ s. s.rows) (take i splits) + (get_or splits i d).rows } } } in
    filter test (numbered 0 (split_scopes p 0 (take (i + 1) splits))) ≡ filter test (numbered 0 (split_scopes p 0 (take i splits))) ++ cond (test live) (live ∷ []) []
splits_more test p splits i d h =
    let before : List SplitDesc = take i splits in
    let from : ℕ = sum_by (λ s. s.rows) before in
    let scope : WorkScope = record { file_ordinal = p; rows = record { start = 0 + from; end = 0 + from + (get_or splits i d).rows } } in
    let live : LiveSplit = record { split = 0 + length (split_scopes p 0 before); scope = scope } in
    let wrap : ℕ × WorkScope → LiveSplit = λ x. record { split = x.0; scope = x.1 } in
    let long : 0 + length (split_scopes p 0 before) ≡ i = omega (arith, length_scopes p 0 before, length_take i splits (omega (arith, h))) in
    let zero_from : 0 + from ≡ from = omega arith in
    ap (λ (some : List SplitDesc). filter test (numbered 0 (split_scopes p 0 some))) (take_more splits i d h)
    ∙ ap (λ (some : List WorkScope). filter test (numbered 0 some)) (scopes_more p 0 before (get_or splits i d))
    ∙ ap (λ (some : List (ℕ × WorkScope)). filter test (map wrap some)) (numbered_more 0 (split_scopes p 0 before) (scope ∷ []))
    ∙ ap (filter test) (map-append wrap (enumerate_from 0 (split_scopes p 0 before)) (enumerate_from (0 + length (split_scopes p 0 before)) (scope ∷ [])))
    ∙ filter-append test (numbered 0 (split_scopes p 0 before)) (live ∷ [])
    ∙ ap (λ (n : ℕ). filter test (numbered 0 (split_scopes p 0 before)) ++ filter test (record { split = n; scope = scope } ∷ [])) long
    ∙ ap (λ (n : ℕ). filter test (numbered 0 (split_scopes p 0 before)) ++ filter test (record { split = i; scope = record { file_ordinal = p; rows = record { start = n; end = n + (get_or splits i d).rows } } } ∷ [])) zero_from

-- the same where its start is known
pub scope_more : (test : LiveSplit → Bool) (p : ℕ) (splits : List SplitDesc) (i : ℕ) (d : SplitDesc) (start : ℕ) → i < length splits → start ≡ sum_by (λ s. s.rows) (take i splits)
    → filter test (numbered 0 (split_scopes p 0 (take (i + 1) splits)))
    ≡ filter test (numbered 0 (split_scopes p 0 (take i splits))) ++ filter test (record { split = i; scope = record { file_ordinal = p; rows = record { start = start; end = start + (get_or splits i d).rows } } } ∷ [])
scope_more test p splits i d start h from =
    let before : List LiveSplit = filter test (numbered 0 (split_scopes p 0 (take i splits))) in
    splits_more test p splits i d h
    ∙ ap (λ (n : ℕ). before ++ filter test (record { split = i; scope = record { file_ordinal = p; rows = record { start = n; end = n + (get_or splits i d).rows } } } ∷ [])) (sym from)

-- ---- ranges

range_more : (a n : ℕ) → range_with_len a (n + 1) ≡ range_with_len a n ++ (a + n) ∷ []
range_more a zero = let e : a ≡ a + 0 = omega arith in ap (λ (i : ℕ). i ∷ []) e
range_more a (suc n) =
    let e : suc n + 1 ≡ suc (n + 1) = omega arith in
    let f : a + 1 + n ≡ a + suc n = omega arith in
    ap (range_with_len a) e ∙ ap (λ (rest : List ℕ). a ∷ rest) (range_more (a + 1) n ∙ ap (λ (i : ℕ). range_with_len (a + 1) n ++ i ∷ []) f)

-- one more row is in a range or not
pub bits_more : (test : ℕ → Bool) (start row : ℕ) → start ≤ row → map test (range_with_len start (row + 1 - start)) ≡ map test (range_with_len start (row - start)) ++ test row ∷ []
bits_more test start row h =
    let e : row + 1 - start ≡ row - start + 1 = omega (arith, h) in
    let f : start + (row - start) ≡ row = omega (arith, h) in
    ap (λ (n : ℕ). map test (range_with_len start n)) e ∙ ap (map test) (range_more start (row - start)) ∙ map-append test (range_with_len start (row - start)) ((start + (row - start)) ∷ []) ∙ ap (λ (i : ℕ). map test (range_with_len start (row - start)) ++ test i ∷ []) f

-- ---- names and chunks

-- a column with the name settles that some column has it
pub named_at : (name : List ℕ) (columns : List ColumnDesc) (i : ℕ) (d : ColumnDesc) → i < length columns → bytes_eq name (get_or columns i d).name ≡ true → list_any (bytes_eq name) (map (λ (column : ColumnDesc). column.name) columns) ≡ true
named_at name [] i d h e = absurd (omega (arith, h))
named_at name (column ∷ columns) zero d h e = rw e refl
named_at name (column ∷ columns) (suc i) d h e = by (bytes_eq name column.name) (named_at name columns i d (omega (arith, h)) e)
  where
    by : (b : Bool) → list_any (bytes_eq name) (map (λ (column : ColumnDesc). column.name) columns) ≡ true → (b || list_any (bytes_eq name) (map (λ (column : ColumnDesc). column.name) columns)) ≡ true
    by true rest = refl
    by false rest = rest

-- a chunk is missing where its place has none
pub missing_is : (chunks : List (Option Chunk)) (k : ℕ) (d : Option Chunk) → k < length chunks → is_missing chunks k ≡ is_none (get_or chunks k d)
missing_is [] k d h = absurd (omega (arith, h))
missing_is (chunk ∷ chunks) zero d h = refl
missing_is (chunk ∷ chunks) (suc k) d h = missing_is chunks k d (omega (arith, h))

-- and where there is no place
pub missing_past : (chunks : List (Option Chunk)) (k : ℕ) → length chunks ≤ k → is_missing chunks k ≡ true
missing_past [] k h = refl
missing_past (chunk ∷ chunks) zero h = absurd (omega (arith, h))
missing_past (chunk ∷ chunks) (suc k) h = missing_past chunks k (omega (arith, h))
