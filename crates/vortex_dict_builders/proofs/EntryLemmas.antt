-- Rows of plain arrays as entries: where they stand, and one more of them.
use Rattle.std.proofs.Common.{ℕ, ℤ, ◌<◌, ◌≤◌, ◌≡◌, Bool, true, false, List, [], ◌∷◌, ◌++◌, length, get_or, map, refl, sym, ap, ◌∙◌, arith, Option, Some, None}
use Rattle.std.specs.Prelude.{IfSome, IsTrue}
use Rattle.std.proofs.lemmas.Bool.{false≢true}
use Rattle.std.proofs.lemmas.List.{get_or-map, length-map}
use Rattle.std.proofs.lemmas.Simd.{map-map}
use Rattle.vortex_array_types.specs.Row.{nullability}
use Rattle.vortex_array_types.specs.declared.types.DType.{DType}
use Rattle.vortex_array_types.specs.declared.types.DType.TheVariants as dtype
use Rattle.vortex_array_types.specs.declared.types.Nullability.{Nullability}
use Rattle.vortex_array_types.specs.declared.types.Nullability.TheVariants as nulls
use Rattle.vortex_array_types.specs.declared.types.PType.{PType}
use Rattle.vortex_array_types.specs.declared.scalar.Value.{Value}
use Rattle.vortex_array_types.specs.declared.scalar.Value.TheVariants as value
use Rattle.vortex_array_kinds.specs.Kinds.{numbers_of, primitive_column, ptype_of}
use Rattle.vortex_array_kinds.specs.Pushed.{Grows, with_row}
use Rattle.vortex_array_kinds.specs.StringValues.{string_type, string_value}
use Rattle.vortex_array_kinds.specs.Validities.{is_as_long, nullability_of, row_of, rows_under, valid_at}
use Rattle.vortex_array_kinds.specs.declared.primitives.PrimitiveBuffer.{PrimitiveBuffer}
use Rattle.vortex_array_kinds.specs.declared.strings.StringKind.{StringKind}
use Rattle.vortex_array_kinds.specs.declared.strings.StringKind.TheVariants.{Utf8, Binary}
use Rattle.vortex_array_kinds.specs.declared.validity.Validity.{Validity}
use Rattle.vortex_array_kinds.specs.declared.validity.Validity.TheVariants.{NonNullable, AllValid, AllInvalid, Bits}
use Rattle.vortex_array_kinds.proofs.RowLemmas.{column_with, length-rows-map, row-here}
use Rattle.vortex_array_kinds.proofs.TruthColumns.{same_column}
use Rattle.vortex_dict_builders.specs.Encoder.{entry_bytes, list_bytes}
use Rattle.vortex_dict_builders.specs.Firsts.{has_row}
use Rattle.vortex_dict_builders.specs.Indexed.{AllPresent, number_of}
use Rattle.vortex_dict_builders.specs.KeptColumns.{number_entries}
use Rattle.vortex_dict_builders.proofs.FirstsLemmas.{stands-among}
use Rattle.vortex_dict_builders.proofs.IndexLemmas.{null-stands, value-stands}
use Rattle.vortex_dict_builders.proofs.ValidityLemmas.{rows-more, same-nulls}

module _ {X : Type 0} (f : X → Value) where
  -- the row at a place of a plain array
  pub plain-row : (v : Validity) (xs : List X) (i : ℕ) (d : X) (b : Bool) → IsTrue (is_as_long v (length xs)) → i < length (rows_under v (map f xs)) → valid_at v i ≡ b → get_or (rows_under v (map f xs)) i None ≡ row_of (f (get_or xs i d)) b
  plain-row v xs i d b long l valid =
      let inside : i < length xs = omega (arith, l, length-rows-map f v xs long) in
      let there : i < length (map f xs) = omega (arith, inside, length-map xs f) in
      sym (row-here v (map f xs) i (f d) (rw (length-map xs f) long) there)
      ∙ ap (row_of (get_or (map f xs) i (f d))) valid
      ∙ ap (λ y. row_of y b) (get_or-map f xs i d (f d) inside)

  -- a value that is none of the rows is no item
  pub nowhere-value : (v : Validity) (xs : List X) (w : Value) → Grows v (length xs) → has_row (rows_under v (map f xs)) (Some w) ≡ false → (p : ℕ) (d : X) → p < length xs → valid_at v p ≡ true → f (get_or xs p d) ≡ w → ⊥
  nowhere-value v xs w g none p d l valid e = false≢true (sym none ∙ stands-among (rows_under v (map f xs)) (Some w) p (value-stands f v xs p d w g l valid e))

  -- where null is none of the rows each is a value
  pub nowhere-null : (v : Validity) (xs : List X) → Grows v (length xs) → has_row (rows_under v (map f xs)) None ≡ false → AllPresent xs v
  nowhere-null v xs g none p l = by_bit (valid_at v p) refl
    where
      by_bit : (b : Bool) → valid_at v p ≡ b → valid_at v p ≡ true
      by_bit true e = e
      by_bit false e = absurd (false≢true (sym none ∙ stands-among (rows_under v (map f xs)) None p (null-stands f v xs p g (record { within = l; null = e }))))

  -- the entries with one more row
  pub entries-more : (t : Nullability → DType) (v : Validity) (b : Bool) (xs : List X) (x : X) (row : Option Value) → Grows v (length xs) → (nullability_of v ≡ nulls.NonNullable → b ≡ true) → row_of (f x) b ≡ row
      → column_with (t (nullability_of (with_row b v))) (rows_under (with_row b v) (map f (xs ++ x ∷ []))) ≡ column_with (t (nullability_of v)) (rows_under v (map f xs) ++ row ∷ [])
  entries-more t v b xs x row g h e =
      same_column _ _ _ _ (ap t (same-nulls v b)) (rows-more f v b xs x g h ∙ ap (λ (r : Option Value). rows_under v (map f xs) ++ r ∷ []) e)

-- numbers as a plain array
pub numbers-column : {X : Type 0} (number : X → ℤ) (w : PType) (b : PrimitiveBuffer) (v : Validity) (xs : List X) → numbers_of b ≡ map number xs → ptype_of b ≡ w
    → primitive_column (record { values = b; validity = v }) ≡ number_entries w number (record { values = xs; validity = v })
numbers-column number w b v xs e f =
    same_column _ _ _ _ (ap (λ p. dtype.Primitive p (nullability_of v)) f)
    (ap (λ ns. rows_under v (map (λ n. value.Int n) ns)) e ∙ ap (rows_under v) (map-map (λ n. value.Int n) number xs))

-- two lists of bytes that are one value of a kind are one
pub same-string : (kind : StringKind) (a b : List ℕ) → string_value kind a ≡ string_value kind b → a ≡ b
same-string kind a b e = sym (held kind a) ∙ ap bytes_held e ∙ held kind b
  where
    bytes_held : Value → List ℕ
    bytes_held (value.Utf8 bytes) = bytes
    bytes_held (value.Binary bytes) = bytes
    bytes_held v = []

    held : (kind : StringKind) (bytes : List ℕ) → bytes_held (string_value kind bytes) ≡ bytes
    held Utf8 bytes = refl
    held Binary bytes = refl

-- types of one kind
pub kind-of-type : (k l : StringKind) (m n : Nullability) → string_type k m ≡ string_type l n → k ≡ l
kind-of-type Utf8 Utf8 m n e = refl
kind-of-type Utf8 Binary m n e = absurd (cc e)
kind-of-type Binary Utf8 m n e = absurd (cc e)
kind-of-type Binary Binary m n e = refl

-- what a list of bytes costs, and what null costs beside these
pub list-cost : (k l : StringKind) (n : Nullability) (bytes : List ℕ) (row : Option Value) → row ≡ Some (string_value l bytes) → entry_bytes (string_type k n) row ≡ list_bytes (length bytes)
list-cost Utf8 Utf8 n bytes row e = ap (entry_bytes (dtype.Utf8 n)) e
list-cost Utf8 Binary n bytes row e = ap (entry_bytes (dtype.Utf8 n)) e
list-cost Binary Utf8 n bytes row e = ap (entry_bytes (dtype.Binary n)) e
list-cost Binary Binary n bytes row e = ap (entry_bytes (dtype.Binary n)) e

pub null-cost : (k : StringKind) (n : Nullability) (row : Option Value) → row ≡ None → entry_bytes (string_type k n) row ≡ 16
null-cost Utf8 n row e = ap (entry_bytes (dtype.Utf8 n)) e
null-cost Binary n row e = ap (entry_bytes (dtype.Binary n)) e

-- the place that a number names is below a bound
pub place-below : (found : Option ℕ) (bound : ℕ) → number_of found ≤ bound → IfSome found (λ place. place < bound)
place-below None bound l = tt
place-below (Some place) bound l = omega (arith, l)

-- where a row is null, its type has nulls
pub null-there-only : (v w : Validity) (i : ℕ) → nullability_of v ≡ nullability_of w → valid_at v i ≡ false → nullability_of w ≡ nulls.NonNullable → false ≡ true
null-there-only v w i same e plain = of_kind v e (same ∙ plain)
  where
    of_kind : (v : Validity) → valid_at v i ≡ false → nullability_of v ≡ nulls.NonNullable → false ≡ true
    of_kind NonNullable e f = sym e
    of_kind AllValid e f = sym e
    of_kind AllInvalid e f = absurd (cc f)
    of_kind (Bits bits) e f = absurd (cc f)

-- whether a type of texts or of bytes has nulls
pub string-nulls : (k : StringKind) (n : Nullability) → nullability (string_type k n) ≡ n
string-nulls Utf8 n = refl
string-nulls Binary n = refl
