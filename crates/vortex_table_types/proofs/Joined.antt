-- The batches of an answer, read row by row, are the rows that they stand for.
use Rattle.std.proofs.Common.{◌≡◌, ◌∙◌, sym, ap, refl, ℕ, zero, suc, ◌+◌, List, [], ◌∷◌, ◌++◌, Bool, true, false, cond, not, length, take, map, arith, add-one}
use Rattle.std.specs.Prelude.{Option, Some, None, is_some, find, filter, flat_map, slice_get, unwrap_or}
use Rattle.std.specs.List.{cons_option, enumerate_from, filter_map, range_with_len}
use Rattle.std.specs.Str.{bytes_eq}
use Rattle.std.proofs.lemmas.List.{length-map, length-take, map-append}
use Rattle.std.proofs.lemmas.Slice.Eq.{bytes_eq-Decides}
use Rattle.vortex_array_types.specs.declared.types.DType.{DType}
use Rattle.vortex_array_types.specs.declared.scalar.Value.{Value}
use Rattle.vortex_array_types.specs.declared.column.ColumnDesc.{ColumnDesc}
use Rattle.vortex_array_types.specs.Cells.{Row, cell_of, dtype_of}
use Rattle.vortex_array_types.specs.Typed.{filter_names}
use Rattle.vortex_scan_types.specs.declared.request.Projection.{Projection}
use Rattle.vortex_scan_types.specs.declared.request.Projection.TheVariants as projection
use Rattle.vortex_scan_types.specs.declared.request.ScanRequest.{ScanRequest}
use Rattle.vortex_scan_types.specs.Valid.{first_unknown, projection_names}
use Rattle.vortex_table_types.specs.Table.{Decoded, decoded, row_at}
use Rattle.vortex_table_types.specs.Chosen.{Placed, all_rows, chosen, is_chosen, lies_in, projected, projected_names, projected_types, rows_in}
use Rattle.vortex_table_types.specs.Answers.{Asked, Given, IsPrefix, asked, columns_of, stands_for}
use Rattle.vortex_table_types.specs.Turn.{batch_rows}
use Rattle.vortex_table_types.specs.Laws.{AnswerIsItsRows, ChosenRowsAreFull, OrderedAnswerIsFirstRows}
use Rattle.vortex_table_types.proofs.Rising.{Each, each_any, each_at, each_filter, each_map, each_more}
use Rattle.vortex_table_types.proofs.Whole.{all_each}

-- ---- lists

-- two changes in turn are one
map_map : {X Y Z : Type 0} (f : Y → Z) (g : X → Y) (xs : List X) → map f (map g xs) ≡ map (λ x. f (g x)) xs
map_map f g [] = refl
map_map f g (x ∷ xs) = ap (λ r. f (g x) ∷ r) (map_map f g xs)

-- changes that agree give one list
map_same : {X Y : Type 0} (f g : X → Y) → ((x : X) → f x ≡ g x) → (xs : List X) → map f xs ≡ map g xs
map_same f g e [] = refl
map_same f g e (x ∷ xs) = ap (λ y. y ∷ map f xs) (e x) ∙ ap (λ r. g x ∷ r) (map_same f g e xs)

-- a function of the number before, over numbers that begin one later
numbers_shift : {X Y : Type 0} (f g : ℕ → Y) → ((i : ℕ) → f (suc i) ≡ g i) → (n : ℕ) (xs : List X) → map (λ t. f t.0) (enumerate_from (n + 1) xs) ≡ map (λ t. g t.0) (enumerate_from n xs)
numbers_shift f g e n [] = refl
numbers_shift f g e n (x ∷ xs) = ap (λ y. y ∷ map (λ t. f t.0) (enumerate_from (n + 1 + 1) xs)) (ap f (add-one n) ∙ e n) ∙ ap (λ r. g n ∷ r) (numbers_shift f g e (n + 1) xs)

-- the same over numbers alone
range_shift : {Y : Type 0} (f g : ℕ → Y) → ((i : ℕ) → f (suc i) ≡ g i) → (n m : ℕ) → map f (range_with_len (n + 1) m) ≡ map g (range_with_len n m)
range_shift f g e n zero = refl
range_shift f g e n (suc m) = ap (λ y. y ∷ map f (range_with_len (n + 1 + 1) m)) (ap f (add-one n) ∙ e n) ∙ ap (λ r. g n ∷ r) (range_shift f g e (n + 1) m)

-- what holds of each element holds of the first ones
each_take : {X : Type 0} (P : X → Type 0) (n : ℕ) (xs : List X) → Each P xs → Each P (take n xs)
each_take P zero xs e = tt
each_take P (suc n) [] e = tt
each_take P (suc n) (x ∷ xs) e = (e.0, each_take P n xs e.1)

-- and of each in the first part of a joined list
each_left : {X : Type 0} (P : X → Type 0) (xs ys : List X) → Each P (xs ++ ys) → Each P xs
each_left P [] ys e = tt
each_left P (x ∷ xs) ys e = (e.0, each_left P xs ys e.1)

-- ---- rows and columns

-- what stands at a place of a list of values, or null behind its end
abbrev value_at : Row → ℕ → Option Value
value_at values i = unwrap_or (slice_get values i) None

-- the values at all places of a row are the row
values_back : (values : Row) (types : List DType) → length values ≡ length types → map (λ t. value_at values t.0) (enumerate_from 0 types) ≡ values
values_back [] [] h = refl
values_back [] (t ∷ types) h = absurd (omega (arith, h))
values_back (v ∷ values) [] h = absurd (omega (arith, h))
values_back (v ∷ values) (t ∷ types) h = ap (λ r. v ∷ r) (numbers_shift (value_at (v ∷ values)) (value_at values) (λ i. refl) 0 types ∙ values_back values types (omega (arith, h)))

-- row i of the columns of these rows
abbrev read_at : List DType → List Placed → ℕ → Row
read_at types part i = map (λ t. value_at (map (λ x. value_at x.values t.0) part) i) (enumerate_from 0 types)

-- it is read across the columns
read_is : (types : List DType) (part : List Placed) (i : ℕ) → row_at (columns_of types part) i ≡ read_at types part i
read_is types part i = map_map (λ c. value_at c.rows i) (λ t. record { dtype = t.1; rows = map (λ x. value_at x.values t.0) part }) (enumerate_from 0 types)

-- read row by row, columns made of rows give these back
rows_back : (types : List DType) (part : List Placed) → Each (λ x. length x.values ≡ length types) part → map (read_at types part) (range_with_len 0 (length part)) ≡ map (λ x. x.values) part
rows_back types [] e = refl
rows_back types (x ∷ part) e =
    ap (λ r. r ∷ map (read_at types (x ∷ part)) (range_with_len 1 (length part))) (values_back x.values types e.0)
    ∙ ap (λ r. x.values ∷ r) (range_shift (read_at types (x ∷ part)) (read_at types part) (λ i. refl) 0 (length part) ∙ rows_back types part e.1)

-- ---- batches

module _ (a : Asked) (full : Each (λ x. length x.values ≡ length a.types) a.rows) where
  -- a batch, read row by row, is the rows that it stands for
  one_batch : (b : Given) → IsPrefix a b → batch_rows b ≡ map (λ x. x.values) (stands_for a.rows b)
  one_batch b p =
      let part : List Placed = stands_for a.rows b in
      let long : b.rows ≡ length part = omega (arith, p.rows, length-take b.rows (rows_in b.scope a.rows)) in
      ap (λ c. map (row_at c) (range_with_len 0 b.rows)) p.columns
      ∙ ap (λ n. map (row_at (columns_of a.types part)) (range_with_len 0 n)) long
      ∙ map_same (row_at (columns_of a.types part)) (read_at a.types part) (read_is a.types part) (range_with_len 0 (length part))
      ∙ rows_back a.types part (each_take (λ x. length x.values ≡ length a.types) b.rows (rows_in b.scope a.rows) (each_filter (λ x. length x.values ≡ length a.types) (lies_in b.scope) a.rows full))

  -- and so are several, joined
  batches_joined : (bs : List Given) → Each (λ b. IsPrefix a b) bs → flat_map batch_rows bs ≡ map (λ x. x.values) (flat_map (stands_for a.rows) bs)
  batches_joined [] e = refl
  batches_joined (b ∷ bs) e =
      ap (λ r. r ++ flat_map batch_rows bs) (one_batch b e.0)
      ∙ ap (λ r. map (λ x. x.values) (stands_for a.rows b) ++ r) (batches_joined bs e.1)
      ∙ sym (map-append (λ x. x.values) (stands_for a.rows b) (flat_map (stands_for a.rows) bs))

-- the batches of an answer, read row by row, are the rows of L that they stand for
pub answer_joined : AnswerIsItsRows
answer_joined a batches full answer = batches_joined a (all_each (λ x. length x.values ≡ length a.types) a.rows full) batches (all_each (λ b. IsPrefix a b) batches answer.prefixes)

-- in order they are the first rows of L, up to the limit
pub ordered_joined : OrderedAnswerIsFirstRows
ordered_joined a batches full ordered answer =
    answer_joined a batches full answer ∙ ap (λ xs. map (λ x. x.values) xs) ((answer.in_order ordered).joined ∙ ap (λ n. take n a.rows) answer.counted)

-- ---- the chosen rows

-- some column has the name
abbrev pub IsKnown : List ColumnDesc → List ℕ → Type 0
IsKnown columns name = is_some (dtype_of columns name) ≡ true

-- as many as there are names, where each gives something
length_found : {X Y : Type 0} (h : X → Option Y) (xs : List X) → Each (λ x. is_some (h x) ≡ true) xs → length (filter_map h xs) ≡ length xs
length_found h [] e = refl
length_found {X} {Y} h (x ∷ xs) e = by (h x) e.0 (length_found h xs e.1)
  where
    by : (o : Option Y) → is_some o ≡ true → length (filter_map h xs) ≡ length xs → length (cons_option o (filter_map h xs)) ≡ length (x ∷ xs)
    by None k f = cc
    by (Some y) k f = ap suc f

-- where a search finds nothing, no element passes
pub none_found : {X : Type 0} (p : X → Bool) (xs : List X) → find p xs ≡ None → Each (λ x. p x ≡ false) xs
none_found p [] e = tt
none_found {X} p (x ∷ xs) e = by (p x) refl (none_found p xs) e
  where
    by : (b : Bool) → p x ≡ b → (find p xs ≡ None → Each (λ y. p y ≡ false) xs) → cond b (Some x) (find p xs) ≡ None → (p x ≡ false) × Each (λ y. p y ≡ false) xs
    by true q f e = cc
    by false q f e = (q, f e)

-- what is not missing is there
pub is_known : (o : Option DType) → not (is_some o) ≡ false → is_some o ≡ true
is_known None e = cc
is_known (Some t) e = refl

-- a name is equal to itself
own_name : (name : List ℕ) → bytes_eq name name ≡ true
own_name name = (bytes_eq-Decides name name).1 refl

-- a column's own name is known
pub own_names : (columns : List ColumnDesc) → Each (λ c. IsKnown columns c.name) columns
own_names [] = tt
own_names (c ∷ columns) = (
  ap (λ b. is_some (cond b (Some c.dtype) (dtype_of columns c.name))) (own_name c.name),
  each_more (λ d. IsKnown columns d.name) (λ d. IsKnown (c ∷ columns) d.name) (λ d k. by d k (bytes_eq c.name d.name)) columns (own_names columns),
)
  where
    by : (d : ColumnDesc) → IsKnown columns d.name → (b : Bool) → is_some (cond b (Some c.dtype) (dtype_of columns d.name)) ≡ true
    by d k true = refl
    by d k false = k

-- each row with its projected values has as many as there are projected types
as_wide : (request : ScanRequest) (table : Decoded) → Each (IsKnown table.columns) (projected_names table.columns request.projection)
    → Each (λ x. length x.values ≡ length (projected_types table.columns request.projection)) (chosen request table)
as_wide request table known =
    let names : List (List ℕ) = projected_names table.columns request.projection in
    each_map (λ x. Unit {0}) (λ x. length x.values ≡ length (projected_types table.columns request.projection)) (projected table.columns request.projection)
    (λ x u. length-map names (cell_of table.columns x.values) ∙ sym (length_found (dtype_of table.columns) names known))
    (filter (is_chosen request table.columns) (all_rows table.partitions)) (each_any (λ x. Unit {0}) (λ x. tt) (filter (is_chosen request table.columns) (all_rows table.partitions)))

-- the projected names are known where the listed ones are
pub names_known : (columns : List ColumnDesc) (names : Projection) → Each (IsKnown columns) (projection_names names) → Each (IsKnown columns) (projected_names columns names)
names_known columns projection.All e = each_map (λ c. IsKnown columns c.name) (IsKnown columns) (λ c. c.name) (λ c k. k) columns (own_names columns)
names_known columns (projection.Columns names) e = e

-- where every name is known, each chosen row has a value for each projected type
pub chosen_wide : (request : ScanRequest) (table : Decoded) → first_unknown table.columns request ≡ None
    → Each (λ x. length x.values ≡ length (projected_types table.columns request.projection)) (chosen request table)
chosen_wide request table none =
    let test : List ℕ → Bool = λ name. not (is_some (dtype_of table.columns name)) in
    let listed : List (List ℕ) = projection_names request.projection in
    as_wide request table (names_known table.columns request.projection
    (each_more (λ n. test n ≡ false) (IsKnown table.columns) (λ n e. is_known (dtype_of table.columns n) e) listed
    (each_left (λ n. test n ≡ false) listed (filter_names request.filter) (none_found test (listed ++ filter_names request.filter) none))))

-- so with the question that a request asks
pub chosen_full : ChosenRowsAreFull
chosen_full columns partitions contents request none =
    let a : Asked = asked columns partitions contents request in
    each_at (λ x. length x.values ≡ length a.types) a.rows (chosen_wide request (decoded columns partitions contents) none)
