-- The rows of a split that are kept, by its chunks.
use Rattle.std.proofs.Common.{zero, suc, ℕ, ◌+◌, ◌<◌, ◌≡◌, ◌≢◌, ◌∙◌, refl, sym, ap, arith, Bool, true, false, cond, ◌&&◌, List, [], ◌∷◌, ◌++◌, length, map, take, get_or, Option, Some, None, Ok, Err}
use Rattle.std.specs.Prelude.{All, IfOk, IsTrue, Result, filter, is_some}
use Rattle.std.specs.List.{AllZip, count_by}
use Rattle.std.specs.Simd.Lanes.{zip2}
use Rattle.std.specs.Str.{bytes_eq}
use Rattle.std.specs.declared.alloc.AllocError.{AllocError}
use Rattle.std.proofs.lemmas.List.{get_or-map, length-map, take_more}
use Rattle.std.proofs.lemmas.List.FromFn.{length-map-range_with_len}
use Rattle.std.proofs.lemmas.Simd.{length-zip2}
use Rattle.std.proofs.lemmas.Slice.Eq.{bytes_eq-Decides}
use Rattle.vortex_buffer.specs.Mask.{mask_bits}
use Rattle.vortex_buffer.specs.declared.mask.Mask.{Mask}
use Rattle.vortex_array_types.specs.declared.column.ColumnDesc.{ColumnDesc}
use Rattle.vortex_array_types.specs.declared.filter.Filter.{Filter}
use Rattle.vortex_array_types.specs.Row.{Column}
use Rattle.vortex_array_types.specs.Truth.{Cells, keeps, truth}
use Rattle.vortex_array_kinds.specs.Truths.{answers, is_true}
use Rattle.vortex_array_kinds.proofs.TruthRows.{cons_same}
use Rattle.vortex_array_rows.specs.Kept.{kept_by}
use Rattle.vortex_array_rows.proofs.Kept.{kept_by-map, length-kept_by}
use Rattle.vortex_array_select.specs.Selected.{filtered}
use Rattle.vortex_array.specs.declared.arrays.Array.{Array}
use Rattle.vortex_array.specs.Batch.{HasRows}
use Rattle.vortex_array.specs.ColumnOf.{column_of, is_plain}
use Rattle.vortex_table_types.specs.Described.{HaveOwnNames}
use Rattle.vortex_table_chunks.specs.declared.chunk.Chunk.{Chunk}
use Rattle.vortex_table_chunks.specs.ChunkOf.{chunk_column}
use Rattle.vortex_table_chunks.specs.Kept.{HoldsNamed, kept_rows}
use Rattle.vortex_table_chunks.specs.Rows.{FitColumns, IsThere, cells_at, cells_of, chunk_of, truths_of}
use Rattle.vortex_table_chunks.proofs.Listed.{map-maps, map-same}
use Rattle.vortex_table_chunks.proofs.NamedChunks.{IsNamed, named-fits, named-values}

-- the items whose bit is set and that pass a test
pub kept-filter : {X : Type 0} (p : X → Bool) (bits : List Bool) (xs : List X) → kept_by (zip2 ◌&&◌ bits (map p xs)) xs ≡ filter p (kept_by bits xs)
kept-filter p [] xs = refl
kept-filter p (bit ∷ bits) [] = refl
kept-filter p (false ∷ bits) (x ∷ xs) = kept-filter p bits xs
kept-filter p (true ∷ bits) (x ∷ xs) = by_test (p x) (kept-filter p bits xs)
  where
    by_test : (b : Bool) → kept_by (zip2 ◌&&◌ bits (map p xs)) xs ≡ filter p (kept_by bits xs) → cond b (x ∷ kept_by (zip2 ◌&&◌ bits (map p xs)) xs) (kept_by (zip2 ◌&&◌ bits (map p xs)) xs) ≡ cond b (x ∷ filter p (kept_by bits xs)) (filter p (kept_by bits xs))
    by_test true h = ap (λ rest. x ∷ rest) h
    by_test false h = h

and_true : (b : Bool) → b ≡ (b && true)
and_true true = refl
and_true false = refl

-- where each item passes, the bits stay
pub all-pass : {X : Type 0} (p : X → Bool) (bits : List Bool) (xs : List X) → length xs ≡ length bits → ((x : X) → p x ≡ true) → bits ≡ zip2 ◌&&◌ bits (map p xs)
all-pass p [] xs e h = refl
all-pass p (bit ∷ bits) [] e h = absurd (omega (arith, e))
all-pass p (bit ∷ bits) (x ∷ xs) e h = cons_same _ _ _ _ (and_true bit ∙ ap (λ b. bit && b) (sym (h x))) (all-pass p bits xs (omega (arith, e)) h)

-- where there is no filter, the bits stay
pub kept-all : (condition : Option Filter) (bits : List Bool) (rows : List Cells) (made : Result Mask AllocError) → condition ≡ None → length rows ≡ length bits → IfOk made (λ m. mask_bits m ≡ bits)
    → IfOk made (λ m. mask_bits m ≡ zip2 ◌&&◌ bits (map (keeps condition) rows))
kept-all condition bits rows (Err e) is long h = tt
kept-all condition bits rows (Ok m) is long h = h ∙ all-pass (keeps condition) bits rows long (λ cells. ap (λ f. keeps f cells) is)

-- a filter keeps the rows of which it is true
true_keeps : (f : Filter) (cells : Cells) → is_true (truth cells f) ≡ keeps (Some f) cells
true_keeps f cells = by_truth (truth cells f) refl
  where
    by_truth : (t : Option Bool) → truth cells f ≡ t → is_true (truth cells f) ≡ keeps (Some f) cells
    by_truth None e = rw e refl
    by_truth (Some b) e = rw e refl

pub true-kept : (rows : List Cells) (f : Filter) (c : Column) → answers c ≡ truths_of rows f → map is_true (answers c) ≡ map (keeps (Some f)) rows
true-kept rows f c e = ap (map is_true) e ∙ map-maps is_true (λ cells. truth cells f) rows ∙ map-same _ _ rows (true_keeps f)

-- one more item beside one more
all_zip_push : {A B : Type 0} (R : A → B → Type 0) (xs : List A) (ys : List B) (x : A) (y : B) → AllZip R xs ys → R x y → AllZip R (xs ++ x ∷ []) (ys ++ y ∷ [])
all_zip_push R [] [] x y h here = (here, h)
all_zip_push R [] (b ∷ ys) x y h here = absurd h
all_zip_push R (a ∷ xs) [] x y h here = absurd h
all_zip_push R (a ∷ xs) (b ∷ ys) x y h here = (h.0, all_zip_push R xs ys x y h.1 here)

pub all-zip-more : {A B : Type 0} (R : A → B → Type 0) (xs : List A) (ys : List B) (i : ℕ) (d : A) (y : B) → i < length xs → AllZip R (take i xs) ys → R (get_or xs i d) y → AllZip R (take (i + 1) xs) (ys ++ y ∷ [])
all-zip-more R xs ys i d y inside h here = rw (take_more xs i d inside) (all_zip_push R (take i xs) ys (get_or xs i d) y h here)

-- the kept rows of the chunk that a name stands for
pub holds-named : (bits : List Bool) (columns : List ColumnDesc) (chunks : List (Option Chunk)) (name : List ℕ) (chunk : Chunk) (array : Array) → FitColumns (length bits) columns chunks → chunk_of columns chunks name ≡ Some chunk
    → column_of array ≡ filtered bits (chunk_column chunk) → IsTrue (is_plain array) → HoldsNamed columns (kept_by bits (cells_of columns chunks (length bits))) name array
holds-named bits columns chunks name chunk array fits there made plain =
    let named : IsNamed columns (length bits) name chunk = named-fits (length bits) columns chunks name chunk fits there in
    record {
      dtype = named.dtype ∙ ap (λ t. Some t) (sym (ap (λ (c : Column). c.dtype) made));
      rows = ap (λ (c : Column). c.rows) made ∙ ap (kept_by bits) (sym (named-values (length bits) columns chunks name chunk fits there)) ∙ kept_by-map (λ (cells : Cells). cells name) bits (cells_of columns chunks (length bits));
      plain = plain;
    }

-- as many bits as rows
pub named-long : (bits : List Bool) (columns : List ColumnDesc) (chunks : List (Option Chunk)) (name : List ℕ) (chunk : Chunk) → FitColumns (length bits) columns chunks → chunk_of columns chunks name ≡ Some chunk
    → length bits ≡ length (chunk_column chunk).rows
named-long bits columns chunks name chunk fits there =
    let named : IsNamed columns (length bits) name chunk = named-fits (length bits) columns chunks name chunk fits there in
    sym named.rows

-- there is a chunk, or none, for each column
pub chunks-long : (n : ℕ) (columns : List ColumnDesc) (chunks : List (Option Chunk)) → FitColumns n columns chunks → length chunks ≡ length columns
chunks-long n [] [] h = refl
chunks-long n [] (chunk ∷ chunks) h = absurd h
chunks-long n (column ∷ columns) [] h = absurd h
chunks-long n (column ∷ columns) (chunk ∷ chunks) h = let rest : length chunks ≡ length columns = chunks-long n columns chunks h.1 in omega (arith, rest)

other_name : (a b : List ℕ) → a ≢ b → bytes_eq a b ≡ false
other_name a b differ = by_test (bytes_eq a b) refl
  where
    by_test : (t : Bool) → bytes_eq a b ≡ t → bytes_eq a b ≡ false
    by_test true e = absurd (differ ((bytes_eq-Decides a b).0 e))
    by_test false e = e

-- where no two columns share a name, the name of a column stands for the chunk at its place
pub own-chunk : (columns : List ColumnDesc) (chunks : List (Option Chunk)) (i : ℕ) (d : ColumnDesc) (e : Option Chunk) → HaveOwnNames columns → length chunks ≡ length columns → i < length columns
    → chunk_of columns chunks (get_or columns i d).name ≡ get_or chunks i e
own-chunk [] chunks i d e own long inside = absurd (omega (arith, inside))
own-chunk (column ∷ columns) [] i d e own long inside = absurd (omega (arith, long))
own-chunk (column ∷ columns) (chunk ∷ chunks) zero d e own long inside = ap (λ b. cond b chunk (chunk_of columns chunks column.name)) ((bytes_eq-Decides column.name column.name).1 refl)
own-chunk (column ∷ columns) (chunk ∷ chunks) (suc i) d e own long inside =
    ap (λ b. cond b chunk (chunk_of columns chunks (get_or columns i d).name)) (other_name column.name (get_or columns i d).name (own 0 (suc i) d (omega arith) inside))
    ∙ own-chunk columns chunks i d e (λ a b f before within. own (suc a) (suc b) f (omega (arith, before)) (omega (arith, within))) (omega (arith, long)) (omega (arith, inside))

-- the name of column i
abbrev pub name_at : List ColumnDesc → ℕ → List ℕ
name_at columns i = get_or (map (λ (column : ColumnDesc). column.name) columns) i []

-- column i, which is there, by its name
module _ (columns : List ColumnDesc) (chunks : List (Option Chunk)) (i : ℕ) (own : HaveOwnNames columns) (long : length chunks ≡ length columns) (inside : i < length columns) where
  found : (xs : List ColumnDesc) (e : Option Chunk) → columns ≡ xs → chunk_of columns chunks (name_at columns i) ≡ get_or chunks i e
  found [] e is = absurd (let none : length columns ≡ 0 = ap length is in omega (arith, none, inside))
  found (d ∷ xs) e is = ap (chunk_of columns chunks) (get_or-map (λ (column : ColumnDesc). column.name) columns i d [] inside) ∙ own-chunk columns chunks i d e own long inside

  pub chunk-at : (held : Option Chunk) (chunk : Chunk) → held ≡ get_or chunks i held → held ≡ Some chunk → chunk_of columns chunks (name_at columns i) ≡ Some chunk
  chunk-at held chunk at is = found columns held refl ∙ sym at ∙ is

  pub not-missing : (held : Option Chunk) → held ≡ get_or chunks i held → held ≡ None → All (IsThere columns chunks) (map (λ (column : ColumnDesc). column.name) columns) → ⊥
  not-missing held at is there =
      let some : is_some (chunk_of columns chunks (name_at columns i)) ≡ true = there i [] (omega (arith, inside, length-map columns (λ (column : ColumnDesc). column.name))) in
      let clash : false ≡ true = sym (ap is_some (found columns held refl ∙ sym at ∙ is)) ∙ some in
      cc

-- the arrays of kept rows are as long as bits are set
pub arrays-long : (columns : List ColumnDesc) (rows : List Cells) (names : List (List ℕ)) (arrays : List Array) (n : ℕ) → length rows ≡ n → AllZip (HoldsNamed columns rows) names arrays → All (HasRows n) arrays
arrays-long columns rows [] [] n e h k d inside = absurd (omega (arith, inside))
arrays-long columns rows [] (array ∷ arrays) n e h k d inside = absurd h
arrays-long columns rows (name ∷ names) [] n e h k d inside = absurd h
arrays-long columns rows (name ∷ names) (array ∷ arrays) n e h zero d inside = ap length h.0.rows ∙ length-map rows (λ (cells : Cells). cells name) ∙ e
arrays-long columns rows (name ∷ names) (array ∷ arrays) n e h (suc k) d inside = arrays-long columns rows names arrays n e h.1 k d (omega (arith, inside))

-- there are so many rows
pub rows-long : (columns : List ColumnDesc) (chunks : List (Option Chunk)) (n : ℕ) → length (cells_of columns chunks n) ≡ n
rows-long columns chunks n = length-map-range_with_len (cells_at columns chunks) 0 n

-- the rows whose bit is set, and that are kept besides
module _ (columns : List ColumnDesc) (chunks : List (Option Chunk)) (condition : Option Filter) (bits kept : List Bool) (is : kept ≡ zip2 ◌&&◌ bits (map (keeps condition) (cells_of columns chunks (length bits)))) where
  -- are as many bits
  pub bits-long : length kept ≡ length bits
  bits-long =
      ap length is
      ∙ length-zip2 ◌&&◌ bits (map (keeps condition) (cells_of columns chunks (length bits))) (sym (length-map (cells_of columns chunks (length bits)) (keeps condition) ∙ rows-long columns chunks (length bits)))

  -- are the kept rows
  pub rows-kept : kept_by kept (cells_of columns chunks (length kept)) ≡ kept_rows condition bits (cells_of columns chunks (length bits))
  rows-kept =
      ap (λ n. kept_by kept (cells_of columns chunks n)) bits-long
      ∙ ap (λ m. kept_by m (cells_of columns chunks (length bits))) is
      ∙ kept-filter (keeps condition) bits (cells_of columns chunks (length bits))

-- and are counted
pub rows-counted : (columns : List ColumnDesc) (chunks : List (Option Chunk)) (kept : List Bool) → length (kept_by kept (cells_of columns chunks (length kept))) ≡ count_by (λ bit. bit) kept
rows-counted columns chunks kept = length-kept_by kept (cells_of columns chunks (length kept)) (sym (rows-long columns chunks (length kept)))
