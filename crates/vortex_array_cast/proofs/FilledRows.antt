-- Rows whose nulls are filled.
use Rattle.std.proofs.Common.{ℕ, inl, inr, zero, suc, ◌<◌, ◌≡◌, ◌+◌, Bool, true, false, cond, List, [], ◌∷◌, ◌++◌, length, get_or, map, take, refl, sym, ap, ◌∙◌, arith, Some}
use Rattle.std.specs.Prelude.{◌⊎◌, ◌&&◌, ◌||◌, IsTrue, All, not, replicate}
use Rattle.std.specs.Simd.Lanes.{zip2}
use Rattle.std.proofs.lemmas.List.{get_or-replicate, map-id, take_all, take_more}
use Rattle.std.proofs.lemmas.Simd.{length-zip2, get_or-zip2}
use Rattle.vortex_array_types.specs.Row.{nullability}
use Rattle.vortex_array_types.specs.Typed.{same_apart_from_nullability}
use Rattle.vortex_array_types.specs.Widths.{with_nullability}
use Rattle.vortex_array_types.specs.declared.types.DType.{DType}
use Rattle.vortex_array_types.specs.declared.types.Nullability.{Nullability}
use Rattle.vortex_array_types.specs.declared.scalar.Value.{Value}
use Rattle.vortex_array_types.proofs.SameTypes.{same-type, with-own}
use Rattle.vortex_array_kinds.specs.Kinds.{plain_column}
use Rattle.vortex_array_kinds.specs.Parts.{PlainParts}
use Rattle.vortex_array_kinds.specs.Validities.{has_none, row_of, rows_under, is_as_long, nullability_of, valid_at, valid_bits}
use Rattle.vortex_array_kinds.specs.declared.validity.Validity.{Validity}
use Rattle.vortex_array_kinds.specs.declared.validity.Validity.TheVariants.{NonNullable, AllValid, AllInvalid, Bits}
use Rattle.vortex_array_kinds.proofs.TruthColumns.{same_column}
use Rattle.vortex_array_kinds.proofs.TruthRows.{cons_same, length-valid, rows-present}
use Rattle.vortex_array_cast.specs.Filled.{filled, filled_row, filled_items}

length_filled : {X : Type 0} (fill : X) (v : Validity) (xs : List X) → IsTrue (is_as_long v (length xs)) → length (filled_items fill xs (valid_bits v (length xs))) ≡ length xs
length_filled fill v xs e = length-zip2 (λ x p. cond p x fill) xs (valid_bits v (length xs)) (sym (length-valid v (length xs) e))

-- the bit of a row says whether it is not null
valid_bit : (v : Validity) (n i : ℕ) → i < n → valid_at v i ≡ get_or (valid_bits v n) i false
valid_bit NonNullable n i l = sym (get_or-replicate n i true false l)
valid_bit AllValid n i l = sym (get_or-replicate n i true false l)
valid_bit AllInvalid n i l = sym (get_or-replicate n i false false l)
valid_bit (Bits bits) n i l = refl

-- one more item, which stands at the end of those that are filled
pub filled-more : {X : Type 0} (fill : X) (v : Validity) (xs ys : List X) (i : ℕ) (x d : X) → IsTrue (is_as_long v (length xs)) → i < length xs → x ≡ cond (valid_at v i) (get_or xs i d) fill → ys ≡ take i (filled_items fill xs (valid_bits v (length xs)))
    → ys ++ x ∷ [] ≡ take (i + 1) (filled_items fill xs (valid_bits v (length xs)))
filled-more fill v xs ys i x d e l h is =
    let bits = valid_bits v (length xs) in
    let all = filled_items fill xs bits in
    let long : length all ≡ length xs = length_filled fill v xs e in
    let here : x ≡ get_or all i x = h ∙ ap (λ b. cond b (get_or xs i d) fill) (valid_bit v (length xs) i l) ∙ sym (get_or-zip2 (λ y p. cond p y fill) xs bits i d false x l (omega (arith, l, length-valid v (length xs) e))) in
    ap (λ zs. zs ++ x ∷ []) is ∙ ap (λ z. take i all ++ z ∷ []) here ∙ sym (take_more all i x (omega (arith, l, long)))

-- all items are filled
pub filled-whole : {X : Type 0} (fill : X) (v : Validity) (xs ys : List X) (i : ℕ) → IsTrue (is_as_long v (length xs)) → length xs ≡ i → ys ≡ take i (filled_items fill xs (valid_bits v (length xs))) → ys ≡ filled_items fill xs (valid_bits v (length xs))
filled-whole fill v xs ys i e n is = is ∙ take_all i (filled_items fill xs (valid_bits v (length xs))) (omega (arith, n, length_filled fill v xs e))

-- the numbers of filled items are the filled numbers
pub map-filled : {X Y : Type 0} (f : X → Y) (fill : X) (xs : List X) (present : List Bool) → map f (filled_items fill xs present) ≡ filled_items (f fill) (map f xs) present
map-filled f fill [] present = refl
map-filled f fill (x ∷ xs) [] = refl
map-filled f fill (x ∷ xs) (true ∷ present) = ap (λ ys. f x ∷ ys) (map-filled f fill xs present)
map-filled f fill (x ∷ xs) (false ∷ present) = ap (λ ys. f fill ∷ ys) (map-filled f fill xs present)

-- without a null the items stay
filled_all : {X : Type 0} (fill : X) (xs : List X) → filled_items fill xs (replicate (length xs) true) ≡ xs
filled_all fill [] = refl
filled_all fill (x ∷ xs) = ap (λ ys. x ∷ ys) (filled_all fill xs)

pub filled-none : {X : Type 0} (fill : X) (v : Validity) (xs : List X) → has_none v ≡ true → xs ≡ filled_items fill xs (valid_bits v (length xs))
filled-none fill NonNullable xs e = sym (filled_all fill xs)
filled-none fill AllValid xs e = sym (filled_all fill xs)
filled-none fill AllInvalid xs e = absurd (cc e)
filled-none fill (Bits bits) xs e = absurd (cc e)

filled_row_of : (x fill : Value) (b : Bool) → row_of (cond b x fill) true ≡ filled_row (Some fill) (row_of x b)
filled_row_of x fill true = refl
filled_row_of x fill false = refl

filled_under : (fill : Value) (xs : List Value) (present : List Bool) → length present ≡ length xs → zip2 row_of (filled_items fill xs present) (replicate (length xs) true) ≡ map (filled_row (Some fill)) (zip2 row_of xs present)
filled_under fill [] present e = refl
filled_under fill (x ∷ xs) [] e = absurd (omega (arith, e))
filled_under fill (x ∷ xs) (b ∷ present) e = cons_same _ _ _ _ (filled_row_of x fill b) (filled_under fill xs present (omega (arith, e)))

rows_valid : (v : Validity) (xs : List Value) → rows_under v xs ≡ zip2 row_of xs (valid_bits v (length xs))
rows_valid v xs = ap (rows_under v) (sym (map-id xs)) ∙ rows-present (λ x. x) v xs

-- the rows of filled values are the filled rows
filled_rows : (fill : Value) (v w : Validity) (xs ys : List Value) → IsTrue (is_as_long v (length xs)) → ((n : ℕ) → valid_bits w n ≡ replicate n true) → ys ≡ filled_items fill xs (valid_bits v (length xs))
    → rows_under w ys ≡ map (filled_row (Some fill)) (rows_under v xs)
filled_rows fill v w xs ys e full is =
    let present = valid_bits v (length xs) in
    rows_valid w ys
    ∙ ap (zip2 row_of ys) (full (length ys))
    ∙ ap (λ zs. zip2 row_of zs (replicate (length zs) true)) is
    ∙ ap (λ n. zip2 row_of (filled_items fill xs present) (replicate n true)) (length_filled fill v xs e)
    ∙ filled_under fill xs present (length-valid v (length xs) e)
    ∙ ap (map (filled_row (Some fill))) (sym (rows_valid v xs))

-- a plain array of filled values is the column filled
pub filled-plain : {X : Type 0} (type_of : X → Nullability → DType) (items : X → List Value) → ((x : X) (m n : Nullability) → type_of x n ≡ with_nullability n (type_of x m)) → (a : PlainParts X) (made : X) (w : Validity) (t : DType) (fill : Value)
    → IsTrue (is_as_long a.validity (length (items a.values))) → IsTrue (same_apart_from_nullability (type_of a.values (nullability_of a.validity)) t)
    → nullability_of w ≡ nullability t → ((n : ℕ) → valid_bits w n ≡ replicate n true) → ((n : Nullability) → type_of made n ≡ type_of a.values n)
    → items made ≡ filled_items fill (items a.values) (valid_bits a.validity (length (items a.values)))
    → plain_column type_of items (record { values = made; validity = w }) ≡ filled (record { dtype = t; value = Some fill }) (plain_column type_of items a)
filled-plain type_of items alike a made w t fill long same kind full typed is =
    let own : Nullability = nullability_of a.validity in
    same_column _ _ _ _ (ap (type_of made) kind ∙ typed (nullability t) ∙ alike a.values own (nullability t) ∙ same-type (type_of a.values own) t (nullability t) same ∙ with-own t)
    (filled_rows fill a.validity w (items a.values) (items made) long full is)

-- every filled item is what the items and the fill are
pub all-filled : {X : Type 0} (P : X → Type 0) (fill : X) (xs : List X) (present : List Bool) → All P xs → P fill → All P (filled_items fill xs present)
all-filled P fill [] present h p i d l = absurd (omega (arith, l))
all-filled P fill (x ∷ xs) [] h p i d l = absurd (omega (arith, l))
all-filled P fill (x ∷ xs) (true ∷ present) h p zero d l = h 0 d (omega arith)
all-filled P fill (x ∷ xs) (false ∷ present) h p zero d l = p
all-filled P fill (x ∷ xs) (b ∷ present) h p (suc i) d l = all-filled P fill xs present (λ k e m. h (suc k) e (omega (arith, m))) p i d (omega (arith, l))

-- bits filled with one that is not set are set where they are present and set
pub filled-unset : (bits present : List Bool) → zip2 ◌&&◌ bits present ≡ filled_items false bits present
filled-unset [] present = refl
filled-unset (b ∷ bits) [] = refl
filled-unset (false ∷ bits) (false ∷ present) = ap (λ bs. false ∷ bs) (filled-unset bits present)
filled-unset (false ∷ bits) (true ∷ present) = ap (λ bs. false ∷ bs) (filled-unset bits present)
filled-unset (true ∷ bits) (false ∷ present) = ap (λ bs. false ∷ bs) (filled-unset bits present)
filled-unset (true ∷ bits) (true ∷ present) = ap (λ bs. true ∷ bs) (filled-unset bits present)

-- bits filled with one that is set are set where they are set or not present
pub filled-set : (bits present : List Bool) → zip2 ◌||◌ bits (map not present) ≡ filled_items true bits present
filled-set [] present = refl
filled-set (b ∷ bits) [] = refl
filled-set (false ∷ bits) (false ∷ present) = ap (λ bs. true ∷ bs) (filled-set bits present)
filled-set (false ∷ bits) (true ∷ present) = ap (λ bs. false ∷ bs) (filled-set bits present)
filled-set (true ∷ bits) (false ∷ present) = ap (λ bs. true ∷ bs) (filled-set bits present)
filled-set (true ∷ bits) (true ∷ present) = ap (λ bs. true ∷ bs) (filled-set bits present)

-- where each row is null, each item is the fill
pub filled-by-none : {X : Type 0} (fill : X) (xs : List X) → filled_items fill xs (replicate (length xs) false) ≡ replicate (length xs) fill
filled-by-none fill [] = refl
filled-by-none fill (x ∷ xs) = ap (λ ys. fill ∷ ys) (filled-by-none fill xs)

pub has-none : (v : Validity) → (v ≡ NonNullable) ⊎ (v ≡ AllValid) → has_none v ≡ true
has-none v (inl e) = ap has_none e
has-none v (inr e) = ap has_none e
