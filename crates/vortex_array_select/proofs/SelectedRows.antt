-- Parts of rows under a validity: rows in a line, and rows that a mask keeps.
use Rattle.std.proofs.Common.{ℕ, ◌-◌, ◌≤◌, ◌≡◌, Bool, List, length, map, refl, sym, ap, ◌∙◌, arith, Option, Some, None, eq-eqb}
use Rattle.std.specs.Prelude.{IsTrue, slice_range}
use Rattle.std.specs.List.{count_by}
use Rattle.std.specs.Simd.Lanes.{zip2}
use Rattle.vortex_array_types.specs.declared.types.DType.{DType}
use Rattle.vortex_array_types.specs.declared.types.Nullability.{Nullability}
use Rattle.vortex_array_types.specs.declared.scalar.Value.{Value}
use Rattle.vortex_array_rows.specs.Kept.{kept_by}
use Rattle.vortex_array_rows.proofs.Slices.{length-slice, slice-map, slice-zip2}
use Rattle.vortex_array_rows.proofs.Kept.{kept_by-map, kept_by-zip2, length-kept_by}
use Rattle.vortex_array_kinds.specs.Kinds.{plain_column}
use Rattle.vortex_array_kinds.specs.Parts.{PlainParts}
use Rattle.vortex_array_kinds.specs.Validities.{row_of, rows_under, is_as_long, nullability_of}
use Rattle.vortex_array_kinds.specs.declared.validity.Validity.{Validity}
use Rattle.vortex_array_kinds.specs.declared.validity.Validity.TheVariants.{NonNullable, AllValid, AllInvalid, Bits}
use Rattle.vortex_array_kinds.proofs.RowLemmas.{column_with, long_bits}
use Rattle.vortex_array_kinds.proofs.TruthColumns.{same_column}
use Rattle.vortex_array_select.specs.Selected.{sliced, filtered}
use Rattle.vortex_array_select.specs.SelectedParts.{map_bits}

part_nulls : (part : List Bool → List Bool) (v : Validity) → nullability_of (map_bits part v) ≡ nullability_of v
part_nulls part NonNullable = refl
part_nulls part AllValid = refl
part_nulls part AllInvalid = refl
part_nulls part (Bits bits) = refl

-- what is taken of lists alike, item by item
record IsPart (part : (X : Type 0) → List X → List X) : Type 1 where
  maps : (X Y : Type 0) (f : X → Y) (xs : List X) → part Y (map f xs) ≡ map f (part X xs)
  zips : (X Y Z : Type 0) (f : X → Y → Z) (xs : List X) (ys : List Y) → part Z (zip2 f xs ys) ≡ zip2 f (part X xs) (part Y ys)

part_rows : (part : (X : Type 0) → List X → List X) → IsPart part → (v : Validity) (xs : List Value) → rows_under (map_bits (part Bool) v) (part Value xs) ≡ part (Option Value) (rows_under v xs)
part_rows part is NonNullable xs = sym (is.maps Value (Option Value) (λ x. Some x) xs)
part_rows part is AllValid xs = sym (is.maps Value (Option Value) (λ x. Some x) xs)
part_rows part is AllInvalid xs = sym (is.maps Value (Option Value) (λ _. None) xs)
part_rows part is (Bits bits) xs = sym (is.zips Value Bool (Option Value) row_of xs bits)

-- such a part of a plain array has that part of its values and of its validity
part_column : {X : Type 0} (type_of : X → Nullability → DType) (items : X → List Value) (a : PlainParts X) (values : X) (part : (X : Type 0) → List X → List X) → IsPart part
    → ((n : Nullability) → type_of values n ≡ type_of a.values n) → items values ≡ part Value (items a.values)
    → plain_column type_of items (record { values = values; validity = map_bits (part Bool) a.validity }) ≡ column_with (type_of a.values (nullability_of a.validity)) (part (Option Value) (rows_under a.validity (items a.values)))
part_column type_of items a values part is same e = same_column _ _ _ _
    (same (nullability_of (map_bits (part Bool) a.validity)) ∙ ap (type_of a.values) (part_nulls (part Bool) a.validity))
    (ap (rows_under (map_bits (part Bool) a.validity)) e ∙ part_rows part is a.validity (items a.values))

-- and the validity is as long as the values
part_long : (v : Validity) (part : List Bool → List Bool) (n m : ℕ) → IsTrue (is_as_long v n) → ((bits : List Bool) → length bits ≡ n → length (part bits) ≡ m) → IsTrue (is_as_long (map_bits part v) m)
part_long NonNullable part n m e h = refl
part_long AllValid part n m e h = refl
part_long AllInvalid part n m e h = refl
part_long (Bits bits) part n m e h = eq-eqb (length (part bits)) m (h bits (long_bits bits n e))

-- rows in a line are the values in that line, under the validity there
pub sliced-column : {X : Type 0} (type_of : X → Nullability → DType) (items : X → List Value) (a : PlainParts X) (values : X) (i j : ℕ) → ((n : Nullability) → type_of values n ≡ type_of a.values n) → items values ≡ slice_range (items a.values) i j
    → plain_column type_of items (record { values = values; validity = map_bits (λ bits. slice_range bits i j) a.validity }) ≡ sliced i j (plain_column type_of items a)
sliced-column type_of items a values i j = part_column type_of items a values (λ X xs. slice_range xs i j) (record { maps = λ X Y f xs. slice-map f xs i j; zips = λ X Y Z f xs ys. slice-zip2 f xs ys i j })

pub sliced-long : {X : Type 0} (items : X → List Value) (count : X → ℕ) → ((x : X) → length (items x) ≡ count x) → (a : PlainParts X) (values : X) (i j : ℕ) → IsTrue (is_as_long a.validity (count a.values)) → i ≤ j → j ≤ count a.values → items values ≡ slice_range (items a.values) i j
    → IsTrue (is_as_long (map_bits (λ bits. slice_range bits i j) a.validity) (count values))
sliced-long items count counted a values i j long order within e =
    let many : count values ≡ j - i = sym (counted values) ∙ ap length e ∙ length-slice (items a.values) i j order (omega (arith, within, counted a.values)) in
    part_long a.validity (λ bits. slice_range bits i j) (count a.values) (count values) long (λ bits same. length-slice bits i j order (omega (arith, within, same)) ∙ sym many)

-- and so what a mask keeps
pub kept-column : {X : Type 0} (type_of : X → Nullability → DType) (items : X → List Value) (a : PlainParts X) (values : X) (set : List Bool) → ((n : Nullability) → type_of values n ≡ type_of a.values n) → items values ≡ kept_by set (items a.values)
    → plain_column type_of items (record { values = values; validity = map_bits (kept_by set) a.validity }) ≡ filtered set (plain_column type_of items a)
kept-column type_of items a values set = part_column type_of items a values (λ X xs. kept_by set xs) (record { maps = λ X Y f xs. kept_by-map f set xs; zips = λ X Y Z f xs ys. kept_by-zip2 f set xs ys })

pub kept-long : {X : Type 0} (items : X → List Value) (count : X → ℕ) → ((x : X) → length (items x) ≡ count x) → (a : PlainParts X) (values : X) (set : List Bool) → IsTrue (is_as_long a.validity (count a.values)) → length set ≡ count a.values → items values ≡ kept_by set (items a.values)
    → IsTrue (is_as_long (map_bits (kept_by set) a.validity) (count values))
kept-long items count counted a values set long same e =
    let many : count values ≡ count_by (λ bit. bit) set = sym (counted values) ∙ ap length e ∙ length-kept_by set (items a.values) (same ∙ sym (counted a.values)) in
    part_long a.validity (kept_by set) (count a.values) (count values) long (λ bits k. length-kept_by set bits (same ∙ sym k) ∙ sym many)
