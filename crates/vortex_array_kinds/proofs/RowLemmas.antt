-- Rows under a validity.
use Rattle.std.proofs.Common.{ℕ, zero, suc, ◌<◌, ◌≡◌, ◌==◌, Bool, true, false, List, [], ◌∷◌, length, get_or, map, refl, sym, ap, ◌∙◌, arith, Option, Some, None}
use Rattle.std.specs.Prelude.{IsTrue, replicate, is_some}
use Rattle.std.specs.Simd.Lanes.{zip2}
use Rattle.std.proofs.lemmas.List.{length-map, get_or-map}
use Rattle.std.proofs.lemmas.Simd.{length-zip2, get_or-zip2}
use Rattle.vortex_array_types.specs.Row.{Column, fits_type, is_nullable, nullability, value_fits}
use Rattle.vortex_array_types.specs.Widths.{with_nullability}
use Rattle.vortex_array_types.specs.declared.types.DType.{DType}
use Rattle.vortex_array_types.specs.declared.types.Nullability.{Nullability}
use Rattle.vortex_array_types.specs.declared.types.Nullability.TheVariants as nulls
use Rattle.vortex_array_types.specs.declared.scalar.Value.{Value}
use Rattle.vortex_array_kinds.specs.Validities.{row_of, rows_under, is_as_long, valid_at, valid_bits, nullability_of, nullable_validity}
use Rattle.vortex_array_kinds.specs.Kinds.{nullable_column, plain_column}
use Rattle.vortex_array_kinds.specs.declared.validity.Validity.{Validity}
use Rattle.vortex_array_kinds.specs.declared.validity.Validity.TheVariants.{NonNullable, AllValid, AllInvalid, Bits}
use Rattle.std.proofs.lemmas.Bool.Decides.{Decides-eqb}

-- bits of the length asked for have it
pub long_bits : (bits : List Bool) (n : ℕ) → IsTrue (length bits == n) → length bits ≡ n
long_bits bits n e = (Decides-eqb (length bits) n).0 e

-- there are as many rows as values
pub length-rows : {X : Type 0} (v : Validity) (vs : List X) → IsTrue (is_as_long v (length vs)) → length (rows_under v vs) ≡ length vs
length-rows NonNullable vs e = length-map vs _
length-rows AllValid vs e = length-map vs _
length-rows AllInvalid vs e = length-map vs _
length-rows (Bits bits) vs e = length-zip2 row_of vs bits (sym (long_bits bits (length vs) e))

-- there are as many rows as items that the values are read from
pub length-rows-map : {X Y : Type 0} (f : X → Y) (v : Validity) (xs : List X) → IsTrue (is_as_long v (length xs)) → length (rows_under v (map f xs)) ≡ length xs
length-rows-map f v xs e = length-rows v (map f xs) (rw (length-map xs f) e) ∙ length-map xs f

-- there are as many rows as are counted
pub rows-counted : {X : Type 0} (v : Validity) (vs : List X) (n : ℕ) → length vs ≡ n → IsTrue (is_as_long v n) → length (rows_under v vs) ≡ n
rows-counted v vs n e h = length-rows v vs (rw e h) ∙ e

-- the row at a place is the value there, where it is valid
pub row-here : {X : Type 0} (v : Validity) (vs : List X) (i : ℕ) (d : X) → IsTrue (is_as_long v (length vs)) → i < length vs → row_of (get_or vs i d) (valid_at v i) ≡ get_or (rows_under v vs) i None
row-here NonNullable vs i d e h = sym (get_or-map (λ y. Some y) vs i d None h)
row-here AllValid vs i d e h = sym (get_or-map (λ y. Some y) vs i d None h)
row-here AllInvalid vs i d e h = sym (get_or-map (λ y. None) vs i d None h)
row-here (Bits bits) vs i d e h = sym (get_or-zip2 row_of vs bits i d false None h (omega (arith, h, long_bits bits (length vs) e)))

-- a type and rows, as a column
abbrev pub column_with : DType → List (Option Value) → Column
column_with t rows = record { dtype = t; rows = rows }

-- a value of the type, or null in a type with nulls, fits
row_fits : (t : DType) (x : Value) (b : Bool) → IsTrue (value_fits t x) → IsTrue (is_nullable t) → IsTrue (fits_type t (row_of x b))
row_fits t x true e n = e
row_fits t x false e n = n

-- the row at a place fits a type that has nulls where the validity may say that a row is null
pub row-fits : (t : DType) (v : Validity) (i : ℕ) (x : Value) → IsTrue (value_fits t x) → nullability t ≡ nullability_of v → IsTrue (fits_type t (row_of x (valid_at v i)))
row-fits t NonNullable i x f e = f
row-fits t AllValid i x f e = f
row-fits t AllInvalid i x f e = rw e refl
row-fits t (Bits bits) i x f e = row_fits t x (get_or bits i false) f (rw e refl)

-- a plain column that is made nullable
pub nullable-plain : {X : Type 0} (t : X → Nullability → DType) (f : X → List Value) (x : X) (v : Validity) → ((m n : Nullability) → t x n ≡ with_nullability n (t x m))
    → plain_column t f (record { values = x; validity = nullable_validity v }) ≡ nullable_column (plain_column t f (record { values = x; validity = v }))
nullable-plain t f x NonNullable alike = ap (λ d. column_with d (rows_under NonNullable (f x))) (alike nulls.NonNullable nulls.Nullable)
nullable-plain t f x AllValid alike = ap (λ d. column_with d (rows_under AllValid (f x))) (alike nulls.Nullable nulls.Nullable)
nullable-plain t f x AllInvalid alike = ap (λ d. column_with d (rows_under AllInvalid (f x))) (alike nulls.Nullable nulls.Nullable)
nullable-plain t f x (Bits bits) alike = ap (λ d. column_with d (rows_under (Bits bits) (f x))) (alike nulls.Nullable nulls.Nullable)

all_present : {X : Type 0} (xs : List X) → replicate (length xs) true ≡ map is_some (map (λ x. Some x) xs)
all_present [] = refl
all_present (x ∷ xs) = ap (λ bs. true ∷ bs) (all_present xs)

none_present : {X : Type 0} (xs : List X) → replicate (length xs) false ≡ map is_some (rows_under AllInvalid xs)
none_present [] = refl
none_present (x ∷ xs) = ap (λ bs. false ∷ bs) (none_present xs)

bit_some : {X : Type 0} (x : X) (b : Bool) → is_some (row_of x b) ≡ b
bit_some x true = refl
bit_some x false = refl

-- rows are present where their bits say so
pub bits_present : {X Y : Type 0} (f : X → Y) (xs : List X) (bits : List Bool) → length bits ≡ length xs → bits ≡ map is_some (zip2 (λ x b. row_of (f x) b) xs bits)
bits_present f [] [] e = refl
bits_present f [] (b ∷ bits) e = absurd (omega (arith, e))
bits_present f (x ∷ xs) [] e = absurd (omega (arith, e))
bits_present f (x ∷ xs) (b ∷ bits) e = ap (λ c. c ∷ bits) (sym (bit_some (f x) b)) ∙ ap (λ bs. is_some (row_of (f x) b) ∷ bs) (bits_present f xs bits (omega (arith, e)))

-- the rows that are not null are those of the validity
pub valid-rows : {X : Type 0} (v : Validity) (vs : List X) → IsTrue (is_as_long v (length vs)) → valid_bits v (length vs) ≡ map is_some (rows_under v vs)
valid-rows NonNullable vs e = all_present vs
valid-rows AllValid vs e = all_present vs
valid-rows AllInvalid vs e = none_present vs
valid-rows (Bits bits) vs e = bits_present (λ x. x) vs bits (long_bits bits (length vs) e)

-- the nullable form of a validity has the same length
pub nullable-long : (v : Validity) (n : ℕ) → is_as_long (nullable_validity v) n ≡ is_as_long v n
nullable-long NonNullable n = refl
nullable-long AllValid n = refl
nullable-long AllInvalid n = refl
nullable-long (Bits bits) n = refl

-- it makes a nullable type
pub nullable-type : (v : Validity) → nullability_of (nullable_validity v) ≡ nulls.Nullable
nullable-type NonNullable = refl
nullable-type AllValid = refl
nullable-type AllInvalid = refl
nullable-type (Bits bits) = refl

-- equal rows are all present, or none is
pub equal-present : {X : Type 0} (n : ℕ) (x : Option X) → map is_some (replicate n x) ≡ replicate n (is_some x)
equal-present zero x = refl
equal-present (suc n) x = ap (λ bs. is_some x ∷ bs) (equal-present n x)

-- what is not null is present
pub not-null : {X : Type 0} (x : Option X) (b : Bool) → b ≡ false → (x ≡ None → IsTrue b) → is_some x ≡ true
not-null None b e h = cc (h refl)
not-null (Some y) b e h = refl
