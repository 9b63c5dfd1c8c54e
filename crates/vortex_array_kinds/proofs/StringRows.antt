-- Lists of bytes as rows, one more at a time.
use Rattle.std.proofs.Common.{ℕ, ◌≡◌, Bool, true, List, [], ◌∷◌, ◌++◌, length, map, refl, sym, ap, ◌∙◌, arith, Some, Ok, Err}
use Rattle.std.specs.Prelude.{OnOk, Result}
use Rattle.std.specs.Simd.Lanes.{zip2}
use Rattle.std.proofs.lemmas.List.{length-map}
use Rattle.vortex_array_types.specs.declared.types.Nullability.{Nullability}
use Rattle.vortex_array_types.specs.declared.types.Nullability.TheVariants as nulls
use Rattle.vortex_array_kinds.specs.Kinds.{string_column}
use Rattle.vortex_array_kinds.specs.Parts.{StringParts}
use Rattle.vortex_array_kinds.specs.Pushed.{Grows, with_row}
use Rattle.vortex_array_kinds.specs.StringValues.{bytes_value, string_type, string_value, strings_of}
use Rattle.vortex_array_kinds.specs.Validities.{nullability_of, row_of, rows_under}
use Rattle.vortex_array_kinds.specs.declared.validity.Validity.{Validity}
use Rattle.vortex_array_kinds.specs.declared.validity.Validity.TheVariants.{NonNullable, AllValid, AllInvalid, Bits}
use Rattle.vortex_array_kinds.specs.declared.strings.StringKind.{StringKind}
use Rattle.vortex_array_kinds.specs.declared.strings.StringKind.TheVariants.{Utf8, Binary}
use Rattle.vortex_array_kinds.proofs.RowLemmas.{column_with}

map_more : {X Y : Type 0} (f : X → Y) (xs : List X) (x : X) → map f (xs ++ x ∷ []) ≡ map f xs ++ f x ∷ []
map_more f [] x = refl
map_more f (y ∷ xs) x = ap (λ ys. f y ∷ ys) (map_more f xs x)

zip2_more : {X Y Z : Type 0} (f : X → Y → Z) (xs : List X) (ys : List Y) (x : X) (y : Y) → length ys ≡ length xs → zip2 f (xs ++ x ∷ []) (ys ++ y ∷ []) ≡ zip2 f xs ys ++ f x y ∷ []
zip2_more f [] [] x y e = refl
zip2_more f [] (b ∷ ys) x y e = absurd (omega (arith, e))
zip2_more f (a ∷ xs) [] x y e = absurd (omega (arith, e))
zip2_more f (a ∷ xs) (b ∷ ys) x y e = ap (λ zs. f a b ∷ zs) (zip2_more f xs ys x y (omega (arith, e)))

rows_more : {X : Type 0} (v : Validity) (p : Bool) (xs : List X) (x : X) → Grows v (length xs) → (nullability_of v ≡ nulls.NonNullable → p ≡ true) → rows_under (with_row p v) (xs ++ x ∷ []) ≡ rows_under v xs ++ row_of x p ∷ []
rows_more NonNullable p xs x g h = map_more (λ x. Some x) xs x ∙ ap (λ b. map (λ x. Some x) xs ++ row_of x b ∷ []) (sym (h refl))
rows_more AllValid p xs x g h = absurd g
rows_more AllInvalid p xs x g h = absurd g
rows_more (Bits bits) p xs x g h = zip2_more row_of xs bits x p g

same_nulls : (v : Validity) (p : Bool) → nullability_of (with_row p v) ≡ nullability_of v
same_nulls NonNullable p = refl
same_nulls AllValid p = refl
same_nulls AllInvalid p = refl
same_nulls (Bits bits) p = refl

-- the column with one more row
pub column-more : (s t : StringParts) (v w : Validity) (bytes : List ℕ) (p : Bool) → t ≡ record s { lists = s.lists ++ bytes ∷ [] } → w ≡ with_row p v → Grows v (length s.lists) → (nullability_of v ≡ nulls.NonNullable → p ≡ true)
    → string_column (record { values = t; validity = w }) ≡ column_with (string_type s.kind (nullability_of v)) (rows_under v (strings_of s) ++ row_of (string_value s.kind bytes) p ∷ [])
column-more s t v w bytes p e f grows h =
    let value = string_value s.kind in
    rw (e, f)
    (ap (λ n. column_with (string_type s.kind n) (rows_under (with_row p v) (map value (s.lists ++ bytes ∷ [])))) (same_nulls v p)
    ∙ ap (λ xs. column_with (string_type s.kind (nullability_of v)) (rows_under (with_row p v) xs)) (map_more value s.lists bytes)
    ∙ ap (column_with (string_type s.kind (nullability_of v))) (rows_more v p (map value s.lists) (value bytes) (rw (length-map s.lists value) grows) h))

-- bytes as a value of the type of their kind
pub value-of-kind : (kind : StringKind) (n : Nullability) (bytes : List ℕ) → bytes_value (string_type kind n) bytes ≡ string_value kind bytes
value-of-kind Utf8 n bytes = refl
value-of-kind Binary n bytes = refl

-- what two things say that hold where a call succeeds
pub on-ok : {E A B C : Type 0} (r : Result Unit E) → (A → B → C) → OnOk r A → OnOk r B → OnOk r C
on-ok (Ok x) f a b = f a b
on-ok (Err e) f a b = tt
