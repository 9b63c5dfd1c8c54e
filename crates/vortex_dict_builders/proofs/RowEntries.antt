-- Numbers and lists of bytes as rows that are entries, or none.
use Rattle.std.proofs.Common.{ℕ, ℤ, ◌<◌, ◌≡◌, Bool, true, false, List, [], length, get_or, map, sym, ap, subst, ◌∙◌, Option, Some, None}
use Rattle.std.specs.Prelude.{pos, IsTrue}
use Rattle.std.specs.Bool.{Decides}
use Rattle.vortex_array_types.specs.declared.types.Nullability.{Nullability}
use Rattle.vortex_array_types.specs.declared.scalar.Value.{Value}
use Rattle.vortex_array_types.specs.declared.scalar.Value.TheVariants as value
use Rattle.vortex_array.specs.Single.{number_held}
use Rattle.vortex_array_kinds.specs.Pushed.{Grows}
use Rattle.vortex_array_kinds.specs.StringValues.{string_type, string_value}
use Rattle.vortex_array_kinds.specs.Validities.{is_as_long, rows_under, valid_at}
use Rattle.vortex_array_kinds.specs.declared.strings.StringKind.{StringKind}
use Rattle.vortex_array_kinds.specs.declared.validity.Validity.{Validity}
use Rattle.vortex_dict_builders.specs.Firsts.{StandsAt, has_row}
use Rattle.vortex_dict_builders.specs.Indexed.{IsAt, IsItem, NoItem, NowhereAt}
use Rattle.vortex_dict_builders.proofs.EntryLemmas.{kind-of-type, nowhere-value, plain-row, same-string}
use Rattle.vortex_dict_builders.proofs.IndexLemmas.{value-nowhere, value-stands}

-- the row at a place of an array of numbers that is not null, by an item of that number
pub number-row : (v : Validity) (ns : List ℤ) (i : ℕ) (n : ℤ) → IsTrue (is_as_long v (length ns)) → i < length (rows_under v (map (λ n. value.Int n) ns)) → valid_at v i ≡ true → n ≡ get_or ns i (pos 0) → get_or (rows_under v (map (λ n. value.Int n) ns)) i None ≡ Some (value.Int n)
number-row v ns i n long l valid e = plain-row (λ n. value.Int n) v ns i (pos 0) true long l valid ∙ ap (λ n. Some (value.Int n)) (sym e)

module _ {X : Type 0} (same : X → X → Bool) (number : X → ℤ) (decides : (x y : X) → Decides (same x y) (number x ≡ number y)) where
  -- the rows
  abbrev rows : Validity → List X → List (Option Value)
  rows v xs = rows_under v (map (λ item. value.Int (number item)) xs)

  -- an item that is no entry is none of the rows
  pub item-nowhere : (v : Validity) (xs : List X) (x : X) (row : Option Value) → Grows v (length xs) → row ≡ Some (value.Int (number x)) → NoItem same xs v x → has_row (rows_under v (map (λ item. value.Int (number item)) xs)) row ≡ false
  item-nowhere v xs x row g e h =
      ap (has_row (rows v xs)) e
      ∙ value-nowhere (λ item. value.Int (number item)) v xs x (value.Int (number x)) g
      (λ p l valid f. h p x l valid ((decides x (get_or xs p x)).1 (sym (ap (λ (w : Value). number_held (Some w)) f))))

  -- one that is an entry stands among them
  pub item-stands : (v : Validity) (xs : List X) (x : X) (row : Option Value) (p : ℕ) → Grows v (length xs) → row ≡ Some (value.Int (number x)) → IsItem same xs v x p → StandsAt (rows_under v (map (λ item. value.Int (number item)) xs)) row p
  item-stands v xs x row p g e h =
      subst (λ (r : Option Value). StandsAt (rows v xs) r p) (sym e)
      (value-stands (λ item. value.Int (number item)) v xs p x (value.Int (number x)) g h.within h.valid (ap (λ n. value.Int n) (sym ((decides x (get_or xs p x)).0 (h.here x)))))

  -- one that is none of the rows is no entry
  pub row-nowhere : (v : Validity) (xs : List X) (x : X) (row : Option Value) → Grows v (length xs) → row ≡ Some (value.Int (number x)) → has_row (rows_under v (map (λ item. value.Int (number item)) xs)) row ≡ false → NoItem same xs v x
  row-nowhere v xs x row g e none = λ p d l valid f.
      nowhere-value (λ item. value.Int (number item)) v xs (value.Int (number x)) g (sym (ap (has_row (rows v xs)) e) ∙ none) p d l valid (ap (λ n. value.Int n) (sym ((decides x (get_or xs p d)).0 f)))

-- the row at a place of an array of lists that is not null, as a value of the kind of the entries
pub list-row : (k l : StringKind) (m n : Nullability) (v : Validity) (lists : List (List ℕ)) (i : ℕ) (bytes : List ℕ) → string_type l m ≡ string_type k n → IsTrue (is_as_long v (length lists)) → i < length (rows_under v (map (string_value l) lists)) → valid_at v i ≡ true → bytes ≡ get_or lists i []
    → get_or (rows_under v (map (string_value l) lists)) i None ≡ Some (string_value k bytes)
list-row k l m n v lists i bytes type long inside valid e =
    plain-row (string_value l) v lists i [] true long inside valid ∙ ap (λ b. Some (string_value l b)) (sym e) ∙ ap (λ (kind : StringKind). Some (string_value kind bytes)) (kind-of-type l k m n type)

-- a list that is no entry is none of the rows
pub list-nowhere : (k : StringKind) (v : Validity) (lists : List (List ℕ)) (bytes : List ℕ) (row : Option Value) → Grows v (length lists) → row ≡ Some (string_value k bytes) → NowhereAt lists v bytes → has_row (rows_under v (map (string_value k) lists)) row ≡ false
list-nowhere k v lists bytes row g e h =
    ap (has_row (rows_under v (map (string_value k) lists))) e
    ∙ value-nowhere (string_value k) v lists [] (string_value k bytes) g (λ p l valid f. h p (record { within = l; valid = valid; here = same-string k (get_or lists p []) bytes f }))

-- one that is an entry stands among them
pub list-stands : (k : StringKind) (v : Validity) (lists : List (List ℕ)) (bytes : List ℕ) (row : Option Value) (p : ℕ) → Grows v (length lists) → row ≡ Some (string_value k bytes) → IsAt lists v bytes p → StandsAt (rows_under v (map (string_value k) lists)) row p
list-stands k v lists bytes row p g e h =
    subst (λ (r : Option Value). StandsAt (rows_under v (map (string_value k) lists)) r p) (sym e)
    (value-stands (string_value k) v lists p [] (string_value k bytes) g h.within h.valid (ap (string_value k) h.here))

-- one that is none of the rows is no entry
pub list-absent : (k : StringKind) (v : Validity) (lists : List (List ℕ)) (bytes : List ℕ) (row : Option Value) → Grows v (length lists) → row ≡ Some (string_value k bytes) → has_row (rows_under v (map (string_value k) lists)) row ≡ false → NowhereAt lists v bytes
list-absent k v lists bytes row g e none = λ p h.
    nowhere-value (string_value k) v lists (string_value k bytes) g (sym (ap (has_row (rows_under v (map (string_value k) lists))) e) ∙ none) p [] h.within h.valid (ap (string_value k) h.here)
