-- Rows under a validity that grows.
use Rattle.std.proofs.Common.{ℕ, ◌+◌, ◌<◌, ◌≡◌, Bool, true, false, List, [], ◌∷◌, ◌++◌, length, get_or, map, refl, sym, ap, ◌∙◌, arith, eq-eqb, Some, None}
use Rattle.std.specs.Prelude.{IsTrue}
use Rattle.std.specs.Simd.Lanes.{zip2}
use Rattle.std.proofs.lemmas.List.{get_or-map, get_or_append_left, get_or_push, length-map, length_push}
use Rattle.vortex_array_types.specs.declared.types.Nullability.{Nullability}
use Rattle.vortex_array_types.specs.declared.types.Nullability.TheVariants as nulls
use Rattle.vortex_array_kinds.specs.Pushed.{Grows, no_row, with_row}
use Rattle.vortex_array_kinds.specs.Validities.{is_as_long, nullability_of, row_of, rows_under, valid_at}
use Rattle.vortex_array_kinds.specs.declared.validity.Validity.{Validity}
use Rattle.vortex_array_kinds.specs.declared.validity.Validity.TheVariants.{NonNullable, AllValid, AllInvalid, Bits}
use Rattle.vortex_array_kinds.proofs.RowLemmas.{length-rows, row-here}

-- a validity that grows with rows is as long as they are
pub grows-long : (v : Validity) (n : ℕ) → Grows v n → IsTrue (is_as_long v n)
grows-long NonNullable n g = refl
grows-long AllValid n g = absurd g
grows-long AllInvalid n g = absurd g
grows-long (Bits bits) n g = eq-eqb (length bits) n g

-- with one more row it still is
pub grows-more : (v : Validity) (n : ℕ) (b : Bool) → Grows v n → Grows (with_row b v) (n + 1)
grows-more NonNullable n b g = tt
grows-more AllValid n b g = absurd g
grows-more AllInvalid n b g = absurd g
grows-more (Bits bits) n b g = omega (arith, g, length_push bits b)

-- and has nulls where it had
pub same-nulls : (v : Validity) (b : Bool) → nullability_of (with_row b v) ≡ nullability_of v
same-nulls NonNullable b = refl
same-nulls AllValid b = refl
same-nulls AllInvalid b = refl
same-nulls (Bits bits) b = refl

-- that of no row
pub no-row-grows : (n : Nullability) → Grows (no_row n) 0
no-row-grows nulls.NonNullable = tt
no-row-grows nulls.Nullable = refl

pub no-row-nulls : (n : Nullability) → nullability_of (no_row n) ≡ n
no-row-nulls nulls.NonNullable = refl
no-row-nulls nulls.Nullable = refl

pub no-row-rows : {X : Type 0} (n : Nullability) → rows_under {X = X} (no_row n) [] ≡ []
no-row-rows nulls.NonNullable = refl
no-row-rows nulls.Nullable = refl

-- a row before the last is as valid as it was
pub valid-before : (v : Validity) (n p : ℕ) (b : Bool) → Grows v n → p < n → valid_at (with_row b v) p ≡ valid_at v p
valid-before NonNullable n p b g l = refl
valid-before AllValid n p b g l = absurd g
valid-before AllInvalid n p b g l = absurd g
valid-before (Bits bits) n p b g l = get_or_append_left bits (b ∷ []) false p (omega (arith, g, l))

-- the last is as valid as it is pushed, null in a type with nulls alone
pub valid-last : (v : Validity) (n : ℕ) (b : Bool) → Grows v n → (nullability_of v ≡ nulls.NonNullable → b ≡ true) → valid_at (with_row b v) n ≡ b
valid-last NonNullable n b g h = sym (h refl)
valid-last AllValid n b g h = absurd g
valid-last AllInvalid n b g h = absurd g
valid-last (Bits bits) n b g h = get_or_push bits b false n g

map_more : {X Y : Type 0} (f : X → Y) (xs : List X) (x : X) → map f (xs ++ x ∷ []) ≡ map f xs ++ f x ∷ []
map_more f [] x = refl
map_more f (y ∷ xs) x = ap (λ ys. f y ∷ ys) (map_more f xs x)

zip2_more : {X Y Z : Type 0} (f : X → Y → Z) (xs : List X) (ys : List Y) (x : X) (y : Y) → length ys ≡ length xs → zip2 f (xs ++ x ∷ []) (ys ++ y ∷ []) ≡ zip2 f xs ys ++ f x y ∷ []
zip2_more f [] [] x y e = refl
zip2_more f [] (b ∷ ys) x y e = absurd (omega (arith, e))
zip2_more f (a ∷ xs) [] x y e = absurd (omega (arith, e))
zip2_more f (a ∷ xs) (b ∷ ys) x y e = ap (λ zs. f a b ∷ zs) (zip2_more f xs ys x y (omega (arith, e)))

rows_more : {X : Type 0} (v : Validity) (b : Bool) (xs : List X) (x : X) → Grows v (length xs) → (nullability_of v ≡ nulls.NonNullable → b ≡ true) → rows_under (with_row b v) (xs ++ x ∷ []) ≡ rows_under v xs ++ row_of x b ∷ []
rows_more NonNullable b xs x g h = map_more (λ x. Some x) xs x ∙ ap (λ b. map (λ x. Some x) xs ++ row_of x b ∷ []) (sym (h refl))
rows_more AllValid b xs x g h = absurd g
rows_more AllInvalid b xs x g h = absurd g
rows_more (Bits bits) b xs x g h = zip2_more row_of xs bits x b g

-- the rows with one more, by the value of each item
pub rows-more : {X Y : Type 0} (f : X → Y) (v : Validity) (b : Bool) (xs : List X) (x : X) → Grows v (length xs) → (nullability_of v ≡ nulls.NonNullable → b ≡ true)
    → rows_under (with_row b v) (map f (xs ++ x ∷ [])) ≡ rows_under v (map f xs) ++ row_of (f x) b ∷ []
rows-more f v b xs x g h = ap (rows_under (with_row b v)) (map_more f xs x) ∙ rows_more v b (map f xs) (f x) (rw (length-map xs f) g) h

-- there are as many rows as items
pub rows-long : {X Y : Type 0} (f : X → Y) (v : Validity) (xs : List X) → Grows v (length xs) → length (rows_under v (map f xs)) ≡ length xs
rows-long f v xs g = length-rows v (map f xs) (grows-long v (length (map f xs)) (rw (length-map xs f) g)) ∙ length-map xs f

-- the row at a place is the value of the item there, or null
pub row-at : {X Y : Type 0} (f : X → Y) (v : Validity) (xs : List X) (p : ℕ) (d : X) → Grows v (length xs) → p < length xs → get_or (rows_under v (map f xs)) p None ≡ row_of (f (get_or xs p d)) (valid_at v p)
row-at f v xs p d g l =
    sym (row-here v (map f xs) p (f d) (grows-long v (length (map f xs)) (rw (length-map xs f) g)) (rw (length-map xs f) l))
    ∙ ap (λ y. row_of y (valid_at v p)) (get_or-map f xs p d (f d) l)
