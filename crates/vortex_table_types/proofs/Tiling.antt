-- The splits of a table tile its rows: cut by split and joined again, the rows are what they were.
use Rattle.std.proofs.Common.{◌≡◌, ◌∙◌, sym, ap, refl, ℕ, suc, ◌+◌, ◌<◌, ◌≤◌, List, [], ◌∷◌, ◌++◌, Bool, true, false, cond, length, map, arith, append-nil}
use Rattle.std.specs.Prelude.{filter, flat_map, zip}
use Rattle.std.specs.List.{enumerate_from, AllZip}
use Rattle.std.proofs.lemmas.List.{map-append}
use Rattle.std.proofs.lemmas.List.Concat.{flat_map-append}
use Rattle.std.proofs.lemmas.List.Elements.{filter-append}
use Rattle.std.proofs.lemmas.List.FromFn.{length-map-range_with_len}
use Rattle.vortex_array_types.specs.Row.{Column}
use Rattle.vortex_array_types.specs.Cells.{Row}
use Rattle.vortex_array_types.specs.declared.column.ColumnDesc.{ColumnDesc}
use Rattle.vortex_table_types.specs.declared.describe.SplitDesc.{SplitDesc}
use Rattle.vortex_table_types.specs.declared.describe.PartitionDesc.{PartitionDesc}
use Rattle.vortex_scan_types.specs.declared.batch.WorkScope.{WorkScope}
use Rattle.vortex_scan_types.specs.declared.request.Projection.{Projection}
use Rattle.vortex_scan_types.specs.declared.request.ScanRequest.{ScanRequest}
use Rattle.vortex_table_types.specs.Table.{Content, FitsPartition, decoded, partition_rows, row_at, scopes_from, split_rows, split_scopes}
use Rattle.vortex_table_types.specs.Chosen.{Placed, chosen, is_chosen, lies_in, projected, rows_in}
use Rattle.vortex_table_types.proofs.Rising.{Each, each_any, each_more}
use Rattle.vortex_table_types.proofs.Ascend.{part_is, parts, parts_from}
use Rattle.vortex_table_types.proofs.Apart.{Within, behind, later, of_partition, within}

-- rows of a partition, the first of which has this number
abbrev pub placed_from : ℕ → ℕ → List Row → List Placed
placed_from p start rows = map (λ x. record { partition = p; row = x.0; values = x.1 }) (enumerate_from start rows)

-- the rows of each of its splits, the first of which begins at row `start`
abbrev pub placed_parts : ℕ → ℕ → List SplitDesc → Content → List (List Placed)
placed_parts p start [] content = []
placed_parts p start (split ∷ splits) [] = []
placed_parts p start (split ∷ splits) (columns ∷ content) = placed_from p start (split_rows split columns) ∷ placed_parts p (start + split.rows) splits content

-- ---- filters

-- a change that a test does not see may come before the test or after it
filter_changed : {X : Type 0} (p : X → Bool) (g : X → X) → ((x : X) → p (g x) ≡ p x) → (xs : List X) → filter p (map g xs) ≡ map g (filter p xs)
filter_changed p g f [] = refl
filter_changed {X} p g f (x ∷ xs) = ap (λ b. cond b (g x ∷ filter p (map g xs)) (filter p (map g xs))) (f x) ∙ ap (λ r. cond (p x) (g x ∷ r) r) (filter_changed p g f xs) ∙ out (p x)
  where
    out : (b : Bool) → cond b (g x ∷ map g (filter p xs)) (map g (filter p xs)) ≡ map g (cond b (x ∷ filter p xs) (filter p xs))
    out true = refl
    out false = refl

-- two tests may come in either order
filters_commute : {X : Type 0} (p q : X → Bool) (xs : List X) → filter p (filter q xs) ≡ filter q (filter p xs)
filters_commute p q [] = refl
filters_commute {X} p q (x ∷ xs) = by (q x) (p x) refl refl (filters_commute p q xs)
  where
    by : (b c : Bool) → q x ≡ b → p x ≡ c → filter p (filter q xs) ≡ filter q (filter p xs)
        → filter p (cond b (x ∷ filter q xs) (filter q xs)) ≡ filter q (cond c (x ∷ filter p xs) (filter p xs))
    by true true e f h = ap (λ b. cond b (x ∷ filter p (filter q xs)) (filter p (filter q xs))) f ∙ ap (λ r. x ∷ r) h ∙ sym (ap (λ b. cond b (x ∷ filter q (filter p xs)) (filter q (filter p xs))) e)
    by true false e f h = ap (λ b. cond b (x ∷ filter p (filter q xs)) (filter p (filter q xs))) f ∙ h
    by false true e f h = h ∙ sym (ap (λ b. cond b (x ∷ filter q (filter p xs)) (filter q (filter p xs))) e)
    by false false e f h = h

-- a test that each element passes leaves all of them
all_kept : {X : Type 0} (p : X → Bool) (xs : List X) → Each (λ x. p x ≡ true) xs → filter p xs ≡ xs
all_kept p [] e = refl
all_kept p (x ∷ xs) e = ap (λ b. cond b (x ∷ filter p xs) (filter p xs)) e.0 ∙ ap (λ r. x ∷ r) (all_kept p xs e.1)

-- a test that none passes leaves none
none_kept : {X : Type 0} (p : X → Bool) (xs : List X) → Each (λ x. p x ≡ false) xs → filter p xs ≡ []
none_kept p [] e = refl
none_kept p (x ∷ xs) e = ap (λ b. cond b (x ∷ filter p xs) (filter p xs)) e.0 ∙ none_kept p xs e.1

-- the chosen rows of a split, with their projected values, are those of its rows
pub rows_in_chosen : (request : ScanRequest) (columns : List ColumnDesc) (projection : Projection) (s : WorkScope) (xs : List Placed)
    → rows_in s (map (projected columns projection) (filter (is_chosen request columns) xs)) ≡ map (projected columns projection) (filter (is_chosen request columns) (rows_in s xs))
rows_in_chosen request columns projection s xs =
    filter_changed (lies_in s) (projected columns projection) (λ x. refl) (filter (is_chosen request columns) xs)
    ∙ ap (map (projected columns projection)) (filters_commute (lies_in s) (is_chosen request columns) xs)

-- ---- one partition

-- a row with such numbers lies in the split
lies : (s : WorkScope) (x : Placed) → x.partition ≡ s.file_ordinal → s.rows.start ≤ x.row → x.row < s.rows.end → lies_in s x ≡ true
lies s x h k l = grind arith

-- a row without them does not
lies_not : (s : WorkScope) (x : Placed) → (Within s x → ⊥) → lies_in s x ≡ false
lies_not s x n = by (lies_in s x) refl
  where
    by : (b : Bool) → lies_in s x ≡ b → b ≡ false
    by true e = absurd (n (within s x e))
    by false e = refl

-- the scope of these rows of partition p
abbrev scope : ℕ → ℕ → ℕ → WorkScope
scope p start end = record { file_ordinal = p; rows = record { start = start; end = end } }

-- rows from a on and below b lie in the split from a to b
all_lie : (p a b start : ℕ) (rows : List Row) → a ≤ start → start + length rows ≤ b → Each (λ x. lies_in (scope p a b) x ≡ true) (placed_from p start rows)
all_lie p a b start [] h k = tt
all_lie p a b start (r ∷ rows) h k = (lies (scope p a b) (record { partition = p; row = start; values = r }) refl h (omega arith), all_lie p a b (start + 1) rows (omega arith) (omega arith))

-- rows that end where the split begins, or before
earlier_not : (s : WorkScope) (p start : ℕ) (rows : List Row) → start + length rows ≤ s.rows.start → Each (λ x. lies_in s x ≡ false) (placed_from p start rows)
earlier_not s p start [] h = tt
earlier_not s p start (r ∷ rows) h = (lies_not s (record { partition = p; row = start; values = r }) (λ w. let e : s.rows.start ≤ start = w.from in omega (arith, h, e)), earlier_not s p (start + 1) rows (omega (arith, h)))

-- rows from the split's end on
later_not : (s : WorkScope) (p start : ℕ) (rows : List Row) → s.rows.end ≤ start → Each (λ x. lies_in s x ≡ false) (placed_from p start rows)
later_not s p start [] h = tt
later_not s p start (r ∷ rows) h = (lies_not s (record { partition = p; row = start; values = r }) (λ w. let e : start < s.rows.end = w.below in omega (arith, h, e)), later_not s p (start + 1) rows (omega (arith, h)))

-- joined rows have the places of the first and then those of the second
pub placed_append : (p start : ℕ) (xs ys : List Row) → placed_from p start (xs ++ ys) ≡ placed_from p start xs ++ placed_from p (start + length xs) ys
placed_append p start [] ys = let e : start ≡ start + 0 = omega arith in ap (λ n. placed_from p n ys) e
placed_append p start (x ∷ xs) ys =
    let e : start + 1 + length xs ≡ start + suc (length xs) = omega arith in
    ap (λ r. record { partition = p; row = start; values = x } ∷ r) (placed_append p (start + 1) xs ys ∙ ap (λ n. placed_from p (start + 1) xs ++ placed_from p n ys) e)

-- a split has as many rows as are described
length_split : (split : SplitDesc) (columns : List Column) → length (split_rows split columns) ≡ split.rows
length_split split columns = length-map-range_with_len (row_at columns) 0 split.rows

-- the rows of these splits, joined
abbrev pub rows_of : List SplitDesc → Content → List Row
rows_of splits content = flat_map (λ s. split_rows s.0 s.1) (zip splits content)

-- the first split's rows, and then those of the others
opened : (p start : ℕ) (split : SplitDesc) (columns : List Column) (rest : List Row)
    → placed_from p start (split_rows split columns ++ rest) ≡ placed_from p start (split_rows split columns) ++ placed_from p (start + split.rows) rest
opened p start split columns rest = placed_append p start (split_rows split columns) rest ∙ ap (λ n. placed_from p start (split_rows split columns) ++ placed_from p (start + n) rest) (length_split split columns)

-- the parts joined are the partition's rows
pub parts_joined : (p start : ℕ) (splits : List SplitDesc) (content : Content) → flat_map (λ x. x) (placed_parts p start splits content) ≡ placed_from p start (rows_of splits content)
parts_joined p start [] content = refl
parts_joined p start (split ∷ splits) [] = refl
parts_joined p start (split ∷ splits) (columns ∷ content) =
    ap (λ r. placed_from p start (split_rows split columns) ++ r) (parts_joined p (start + split.rows) splits content) ∙ sym (opened p start split columns (rows_of splits content))

-- what two lists have at each place implies a weaker fact there
zip_more : {A B : Type 0} (P : A → Type 0) (R S : A → B → Type 0) → ((x : A) (y : B) → P x → R x y → S x y) → (xs : List A) (ys : List B) → Each P xs → AllZip R xs ys → AllZip S xs ys
zip_more P R S f [] [] e r = tt
zip_more P R S f [] (y ∷ ys) e r = r
zip_more P R S f (x ∷ xs) [] e r = r
zip_more P R S f (x ∷ xs) (y ∷ ys) e r = (f x y e.0 r.0, zip_more P R S f xs ys e.1 r.1)

-- each split has its part of the rows
pub parts_lie : (R : SplitDesc → List Column → Type 0) (p start : ℕ) (splits : List SplitDesc) (content : Content) → AllZip R splits content
    → AllZip (λ s part. rows_in s (placed_from p start (rows_of splits content)) ≡ part) (split_scopes p start splits) (placed_parts p start splits content)
parts_lie R p start [] [] r = tt
parts_lie R p start [] (columns ∷ content) r = absurd r
parts_lie R p start (split ∷ splits) [] r = absurd r
parts_lie R p start (split ∷ splits) (columns ∷ content) r =
    let s : WorkScope = scope p start (start + split.rows) in
    let first : List Placed = placed_from p start (split_rows split columns) in
    let rest : List Placed = placed_from p (start + split.rows) (rows_of splits content) in
    let all : (t : WorkScope) → rows_in t (placed_from p start (split_rows split columns ++ rows_of splits content)) ≡ rows_in t first ++ rows_in t rest =
    λ t. ap (rows_in t) (opened p start split columns (rows_of splits content)) ∙ filter-append (lies_in t) first rest in
    let inside : rows_in s first ≡ first = all_kept (lies_in s) first (all_lie p start (start + split.rows) start (split_rows split columns) (omega arith) (omega (arith, length_split split columns))) in
    let outside : rows_in s rest ≡ [] = none_kept (lies_in s) rest (later_not s p (start + split.rows) (rows_of splits content) (omega arith)) in (
      all s ∙ ap (λ x. x ++ rows_in s rest) inside ∙ ap (λ x. first ++ x) outside ∙ append-nil first,
      zip_more (λ t. (p ≡ t.file_ordinal) × (start + split.rows ≤ t.rows.start)) (λ t part. rows_in t rest ≡ part)
          (λ t part. rows_in t (placed_from p start (split_rows split columns ++ rows_of splits content)) ≡ part)
          (λ t part h e. all t ∙ ap (λ x. x ++ rows_in t rest) (none_kept (lies_in t) first (earlier_not t p start (split_rows split columns) (omega (arith, length_split split columns, h.1)))) ∙ e)
          (split_scopes p (start + split.rows) splits) (placed_parts p (start + split.rows) splits content)
          (behind p (start + split.rows) (start + split.rows) splits (omega arith)) (parts_lie R p (start + split.rows) splits content r.1),
    )

-- each split of a partition has its part of the partition's rows
pub partition_parts : (p : ℕ) (partition : PartitionDesc) (content : Content) → FitsPartition partition content
    → AllZip (λ s part. rows_in s (placed_from p 0 (partition_rows partition content)) ≡ part) (split_scopes p 0 partition.splits) (placed_parts p 0 partition.splits content)
partition_parts p partition content fits = parts_lie _ p 0 partition.splits content fits

-- ---- the whole table

-- the rows, cut by these splits and joined again, are what they were
abbrev pub Tiles : List WorkScope → List Placed → Type 0
Tiles scopes rows = flat_map (λ s. rows_in s rows) scopes ≡ rows

-- lists that are equal place by place are equal when joined
flat_zip : {A B : Type 0} (f : A → List B) (xs : List A) (ys : List (List B)) → AllZip (λ x y. f x ≡ y) xs ys → flat_map f xs ≡ flat_map (λ y. y) ys
flat_zip f [] [] r = refl
flat_zip f [] (y ∷ ys) r = absurd r
flat_zip f (x ∷ xs) [] r = absurd r
flat_zip f (x ∷ xs) (y ∷ ys) r = ap (λ z. z ++ flat_map f xs) r.0 ∙ ap (λ z. y ++ z) (flat_zip f xs ys r.1)

-- the rows of each partition that a description and its content make
abbrev pub rows_by : List PartitionDesc → List Content → List (List Row)
rows_by partitions contents = map (λ p. partition_rows p.0 p.1) (zip partitions contents)

-- the rows of each split of the table, the first partition's number being p
abbrev pub table_parts : ℕ → List PartitionDesc → List Content → List (List Placed)
table_parts p [] contents = []
table_parts p (d ∷ partitions) [] = []
table_parts p (d ∷ partitions) (k ∷ contents) = placed_parts p 0 d.splits k ++ table_parts (p + 1) partitions contents

-- two lists that fit, and two more
zip_append : {A B : Type 0} (R : A → B → Type 0) (xs xs' : List A) (ys ys' : List B) → AllZip R xs ys → AllZip R xs' ys' → AllZip R (xs ++ xs') (ys ++ ys')
zip_append R [] xs' [] ys' r s = s
zip_append R [] xs' (y ∷ ys) ys' r s = absurd r
zip_append R (x ∷ xs) xs' [] ys' r s = absurd r
zip_append R (x ∷ xs) xs' (y ∷ ys) ys' r s = (r.0, zip_append R xs xs' ys ys' r.1 s)

-- no row of a later partition lies in a split of partition p
later_apart : (p : ℕ) (splits : List SplitDesc) (rest : List (List Row)) → Each (λ s. rows_in s (parts (p + 1) rest) ≡ []) (split_scopes p 0 splits)
later_apart p splits rest =
    each_more (λ s. s.file_ordinal ≡ p) (λ s. rows_in s (parts (p + 1) rest) ≡ [])
    (λ s e. none_kept (lies_in s) (parts (p + 1) rest) (each_more (λ x. p + 1 ≤ x.partition) (λ x. lies_in s x ≡ false) (λ x h. lies_not s x (λ w. omega (arith, h, e, w.there))) (parts (p + 1) rest) (parts_from (p + 1) (p + 1) rest (omega arith))))
    (split_scopes p 0 splits) (of_partition p 0 splits)

-- no row of partition p lies in a split of a later one
earlier_apart : (p : ℕ) (rows : List Row) (partitions : List PartitionDesc) → Each (λ t. rows_in t (placed_from p 0 rows) ≡ []) (scopes_from (p + 1) partitions)
earlier_apart p rows partitions =
    each_more (λ t. p + 1 ≤ t.file_ordinal) (λ t. rows_in t (placed_from p 0 rows) ≡ [])
    (λ t h. none_kept (lies_in t) (placed_from p 0 rows) (each_more (λ x. x.partition ≡ p) (λ x. lies_in t x ≡ false) (λ x e. lies_not t x (λ w. omega (arith, h, e, w.there))) (placed_from p 0 rows) (part_is p 0 rows)))
    (scopes_from (p + 1) partitions) (later (p + 1) (p + 1) partitions (omega arith))

-- each split of a table has its part of the table's rows
pub table_parts_lie : (p : ℕ) (partitions : List PartitionDesc) (contents : List Content) → AllZip FitsPartition partitions contents
    → AllZip (λ s part. rows_in s (parts p (rows_by partitions contents)) ≡ part) (scopes_from p partitions) (table_parts p partitions contents)
table_parts_lie p [] [] r = tt
table_parts_lie p [] (k ∷ contents) r = absurd r
table_parts_lie p (d ∷ partitions) [] r = absurd r
table_parts_lie p (d ∷ partitions) (k ∷ contents) r =
    let first : List Placed = placed_from p 0 (partition_rows d k) in
    let rest : List Placed = parts (p + 1) (rows_by partitions contents) in
    let all : (t : WorkScope) → rows_in t (first ++ rest) ≡ rows_in t first ++ rows_in t rest = λ t. filter-append (lies_in t) first rest in
    zip_append (λ s part. rows_in s (first ++ rest) ≡ part) (split_scopes p 0 d.splits) (scopes_from (p + 1) partitions) (placed_parts p 0 d.splits k) (table_parts (p + 1) partitions contents)
    (zip_more (λ s. rows_in s rest ≡ []) (λ s part. rows_in s first ≡ part) (λ s part. rows_in s (first ++ rest) ≡ part)
    (λ s part n e. all s ∙ ap (λ z. rows_in s first ++ z) n ∙ append-nil (rows_in s first) ∙ e)
    (split_scopes p 0 d.splits) (placed_parts p 0 d.splits k) (later_apart p d.splits (rows_by partitions contents)) (partition_parts p d k r.0))
    (zip_more (λ s. rows_in s first ≡ []) (λ s part. rows_in s rest ≡ part) (λ s part. rows_in s (first ++ rest) ≡ part)
    (λ s part n e. all s ∙ ap (λ z. z ++ rows_in s rest) n ∙ e)
    (scopes_from (p + 1) partitions) (table_parts (p + 1) partitions contents) (earlier_apart p (partition_rows d k) partitions) (table_parts_lie (p + 1) partitions contents r.1))

-- the rows of L in a split are the chosen ones of its part, with their projected values
pub chosen_parts : (columns : List ColumnDesc) (partitions : List PartitionDesc) (contents : List Content) (request : ScanRequest) → AllZip FitsPartition partitions contents
    → AllZip (λ s part. rows_in s (chosen request (decoded columns partitions contents)) ≡ map (projected columns request.projection) (filter (is_chosen request columns) part)) (scopes_from 0 partitions) (table_parts 0 partitions contents)
chosen_parts columns partitions contents request fits =
    let rows : List Placed = parts 0 (rows_by partitions contents) in
    zip_more (λ s. Unit {0}) (λ s part. rows_in s rows ≡ part)
    (λ s part. rows_in s (chosen request (decoded columns partitions contents)) ≡ map (projected columns request.projection) (filter (is_chosen request columns) part))
    (λ s part u e. rows_in_chosen request columns request.projection s rows ∙ ap (λ z. map (projected columns request.projection) (filter (is_chosen request columns) z)) e)
    (scopes_from 0 partitions) (table_parts 0 partitions contents) (each_any (λ s. Unit {0}) (λ s. tt) (scopes_from 0 partitions)) (table_parts_lie 0 partitions contents fits)

-- the parts joined are the table's rows
table_parts_joined : (p : ℕ) (partitions : List PartitionDesc) (contents : List Content) → flat_map (λ y. y) (table_parts p partitions contents) ≡ parts p (rows_by partitions contents)
table_parts_joined p [] contents = refl
table_parts_joined p (d ∷ partitions) [] = refl
table_parts_joined p (d ∷ partitions) (k ∷ contents) =
    let rest : List (List Placed) = table_parts (p + 1) partitions contents in
    flat_map-append (λ y. y) (placed_parts p 0 d.splits k) rest
    ∙ ap (λ z. z ++ flat_map (λ y. y) rest) (parts_joined p 0 d.splits k) ∙ ap (λ z. placed_from p 0 (partition_rows d k) ++ z) (table_parts_joined (p + 1) partitions contents)

-- the rows of a table, cut by its splits and joined again, are what they were
all_tiled : (p : ℕ) (partitions : List PartitionDesc) (contents : List Content) → AllZip FitsPartition partitions contents → Tiles (scopes_from p partitions) (parts p (rows_by partitions contents))
all_tiled p partitions contents fits =
    flat_zip (λ s. rows_in s (parts p (rows_by partitions contents))) (scopes_from p partitions) (table_parts p partitions contents) (table_parts_lie p partitions contents fits) ∙ table_parts_joined p partitions contents

-- a filter and a change after a cut by split are those before it
flat_chosen : (request : ScanRequest) (columns : List ColumnDesc) (projection : Projection) (xs : List Placed) (scopes : List WorkScope)
    → flat_map (λ s. rows_in s (map (projected columns projection) (filter (is_chosen request columns) xs))) scopes ≡ map (projected columns projection) (filter (is_chosen request columns) (flat_map (λ s. rows_in s xs) scopes))
flat_chosen request columns projection xs [] = refl
flat_chosen request columns projection xs (s ∷ scopes) =
    let rest : List Placed = flat_map (λ t. rows_in t xs) scopes in
    let test : Placed → Bool = is_chosen request columns in
    ap (λ z. z ++ flat_map (λ t. rows_in t (map (projected columns projection) (filter test xs))) scopes) (rows_in_chosen request columns projection s xs)
    ∙ ap (λ z. map (projected columns projection) (filter test (rows_in s xs)) ++ z) (flat_chosen request columns projection xs scopes)
    ∙ sym (ap (map (projected columns projection)) (filter-append test (rows_in s xs) rest) ∙ map-append (projected columns projection) (filter test (rows_in s xs)) (filter test rest))

-- L, cut by the splits of its table and joined again, is L
pub chosen_tiled : (columns : List ColumnDesc) (partitions : List PartitionDesc) (contents : List Content) (request : ScanRequest) → AllZip FitsPartition partitions contents
    → flat_map (λ s. rows_in s (chosen request (decoded columns partitions contents))) (scopes_from 0 partitions) ≡ chosen request (decoded columns partitions contents)
chosen_tiled columns partitions contents request fits =
    flat_chosen request columns request.projection (parts 0 (rows_by partitions contents)) (scopes_from 0 partitions)
    ∙ ap (λ xs. map (projected columns request.projection) (filter (is_chosen request columns) xs)) (all_tiled 0 partitions contents fits)
