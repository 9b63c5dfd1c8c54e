-- The numbers of a column of `u64`, read back from its rows.
use Rattle.std.proofs.Common.{◌≡◌, ◌∙◌, ◌<◌, ◌≤◌, ◌+◌, ◌++◌, get_or, take, ap, sym, refl, ℕ, List, [], ◌∷◌, Bool, true, false, Option, Some, None, map, length}
use Rattle.std.specs.Prelude.{pos, IsTrue, ◌&&◌}
use Rattle.std.specs.List.{list_all}
use Rattle.std.proofs.lemmas.List.{map-append, take_all, take_more}
use Rattle.vortex_array_types.specs.declared.scalar.Value.{Value}
use Rattle.vortex_array_types.specs.declared.scalar.Value.TheVariants as value
use Rattle.vortex_array_types.specs.declared.types.DType.TheVariants as dtype
use Rattle.vortex_array_types.specs.Row.{Column, fits_column, fits_type}
use Rattle.vortex_array_kinds.specs.declared.primitives.PrimitiveBuffer.{PrimitiveBuffer}
use Rattle.vortex_array_kinds.specs.declared.validity.Validity.{Validity}
use Rattle.vortex_array_kinds.specs.declared.validity.Validity.TheVariants.{NonNullable, AllValid, AllInvalid, Bits}
use Rattle.vortex_array_kinds.specs.Kinds.{nullability_of, numbers_of, primitive_column, ptype_of}
use Rattle.vortex_io.specs.Source.{Agrees}
use Rattle.vortex_io.specs.declared.request.Fetch.{Fetch}
use Rattle.vortex_io.specs.declared.request.IoResult.TheVariants as result
use Rattle.vortex_io.specs.declared.request.IoTarget.{IoTarget}
use Rattle.vortex_io.specs.declared.request.IoTarget.TheVariants as target
use Rattle.vortex_table.specs.declared.chunk.Chunk.{Chunk}
use Rattle.vortex_table.specs.Built.{u64_type}
use Rattle.vortex_table.specs.ChunkOf.{chunk_column}
use Rattle.vortex_table.specs.Scanning.{column_at, column_numbers, oldest_column, row_number, u64_column, u64_row}

-- numbers as rows are read back as themselves
numbers_read : (ns : List ℕ) → map row_number (map u64_row ns) ≡ ns
numbers_read [] = refl
numbers_read (n ∷ ns) = ap (λ ys. n ∷ ys) (numbers_read ns)

-- a column of numbers has these numbers
pub column_read : (c : Column) (ns : List ℕ) → c ≡ u64_column ns → column_numbers c ≡ ns
column_read c ns e = ap column_numbers e ∙ numbers_read ns

-- a column is known by its type and its rows
pub column_is : (c : Column) (ns : List ℕ) → c.dtype ≡ u64_type → c.rows ≡ map u64_row ns → c ≡ u64_column ns
column_is c ns d r = λ i. record { dtype = d i; rows = r i }

-- one more number is one more row
pub numbers_more : (rows : List (Option Value)) (ns : List ℕ) (i n : ℕ) → i < length rows → map u64_row ns ≡ take i rows → get_or rows i None ≡ u64_row n → map u64_row (ns ++ n ∷ []) ≡ take (i + 1) rows
numbers_more rows ns i n h before here =
    map-append u64_row ns (n ∷ []) ∙ ap (λ r. r ++ u64_row n ∷ []) before ∙ ap (λ v. take i rows ++ v ∷ []) (sym here) ∙ sym (take_more rows i None h)

-- numbers of all rows make the column
pub numbers_all : (c : Column) (ns : List ℕ) (i : ℕ) → length c.rows ≤ i → c.dtype ≡ u64_type → map u64_row ns ≡ take i c.rows → c ≡ u64_column ns
numbers_all c ns i h d e = column_is c ns d (sym (e ∙ take_all i c.rows h))

-- a row that fits the type is its number
row_fits : (v : Option Value) → IsTrue (fits_type u64_type v) → v ≡ u64_row (row_number v)
row_fits None h = cc h
row_fits (Some (value.Int (pos n))) h = refl
row_fits (Some v) h = cc h

both_hold : (a b : Bool) → IsTrue (a && b) → IsTrue a × IsTrue b
both_hold true true h = (refl, refl)
both_hold true false h = cc h
both_hold false b h = cc h

-- rows that fit the type are their numbers
rows_fit : (rows : List (Option Value)) → IsTrue (list_all (fits_type u64_type) rows) → rows ≡ map u64_row (map row_number rows)
rows_fit [] h = refl
rows_fit (v ∷ rows) h =
    let parts : IsTrue (fits_type u64_type v) × IsTrue (list_all (fits_type u64_type) rows) = both_hold (fits_type u64_type v) (list_all (fits_type u64_type) rows) h in
    λ i. row_fits v parts.0 i ∷ rows_fit rows parts.1 i

-- a column of the type whose rows fit it is the column of its numbers
pub column_fits : (c : Column) → c.dtype ≡ u64_type → IsTrue (fits_column c) → c ≡ u64_column (column_numbers c)
column_fits c d h = column_is c (column_numbers c) d (rows_fit c.rows (rw d at h))

-- numbers as values as rows are numbers as rows
rows_written : (b : List ℕ) → map (λ v. Some v) (map (λ n. value.Int n) (map (λ x. pos x) b)) ≡ map u64_row b
rows_written [] = refl
rows_written (x ∷ b) = ap (λ ys. u64_row x ∷ ys) (rows_written b)

-- an array of the type whose numbers are these is their column
pub values_written : (values : PrimitiveBuffer) (validity : Validity) (ns : List ℕ) → dtype.Primitive (ptype_of values) (nullability_of validity) ≡ u64_type → numbers_of values ≡ map (λ n. pos n) ns
    → primitive_column (record { values = values; validity = validity }) ≡ u64_column ns
values_written values NonNullable ns d e = column_is _ ns d (ap (λ numbers. map (λ v. Some v) (map (λ n. value.Int n) numbers)) e ∙ rows_written ns)
values_written values AllValid ns d e = absurd (cc d)
values_written values AllInvalid ns d e = absurd (cc d)
values_written values (Bits bits) ns d e = absurd (cc d)

target_read : (chunks : List (List Chunk)) (t : IoTarget) (c : Chunk) (ns : List ℕ) → Agrees chunk_column chunks t (result.Chunk c) → column_at chunks t ≡ Some (u64_column ns) → chunk_column c ≡ u64_column ns
target_read chunks (target.Chunk split column) c ns g e = cc (g, e)
target_read chunks target.Size c ns g e = absurd g

-- what a wait gave is the column of the oldest fetch
pub oldest_read : (chunks : List (List Chunk)) (outstanding rest : List Fetch) (oldest : Fetch) (c : Chunk) (ns : List ℕ) → outstanding ≡ oldest ∷ rest
    → Agrees chunk_column chunks oldest.target (result.Chunk c) → oldest_column chunks outstanding ≡ Some (u64_column ns) → chunk_column c ≡ u64_column ns
oldest_read chunks outstanding rest oldest c ns l g e = target_read chunks oldest.target c ns g (sym (ap (oldest_column chunks) l) ∙ e)
