-- Rows that are values under a validity.
use Rattle.std.proofs.Common.{ℕ, inl, inr, ◌<◌, ◌≤◌, ◌≡◌, Bool, true, false, List, length, get_or, map, refl, sym, ap, ◌∙◌, arith, Option, Some, None}
use Rattle.std.specs.Prelude.{IsTrue, is_some, option_map, slice_get, ◌⊎◌}
use Rattle.std.proofs.lemmas.Bool.{cases_lt, false≢true}
use Rattle.std.proofs.lemmas.List.{get_or_past, length-map}
use Rattle.std.proofs.lemmas.Option.{slice_get-get_or, slice_get-map}
use Rattle.std.specs.declared.cmp.Ordering.{Ordering}
use Rattle.std.specs.Ordering.{nat_cmp}
use Rattle.std.specs.Cmp.Lexicographic.{slice_cmp}
use Rattle.vortex_array_types.specs.Order.{row_cmp}
use Rattle.vortex_array_types.specs.declared.scalar.Value.{Value}
use Rattle.vortex_array_types.specs.declared.scalar.Value.TheVariants as value
use Rattle.vortex_array_kinds.specs.Validities.{row_of, rows_under, is_as_long, valid_at}
use Rattle.vortex_array_kinds.specs.declared.validity.Validity.{Validity}
use Rattle.vortex_array_kinds.specs.StringValues.{string_value}
use Rattle.vortex_array_kinds.specs.declared.strings.StringKind.{StringKind}
use Rattle.vortex_array_kinds.specs.declared.strings.StringKind.TheVariants.{Utf8, Binary}
use Rattle.vortex_array_kinds.proofs.RowLemmas.{length-rows, row-here}

there : (a : Value) (b : Bool) (r : Option Value) → row_of a b ≡ r → is_some r ≡ true → r ≡ Some a
there a true r e s = sym e
there a false r e s = absurd (false≢true (ap is_some e ∙ s))

some_row : (a : Value) (b : Bool) → is_some (row_of a b) ≡ b
some_row a true = refl
some_row a false = refl

-- whether the row at a place is a value
pub some-at : (v : Validity) (xs : List Value) (i : ℕ) → IsTrue (is_as_long v (length xs)) → i < length xs → is_some (get_or (rows_under v xs) i None) ≡ valid_at v i
some-at v xs i long l = sym (ap is_some (row-here v xs i (value.Bool false) long l)) ∙ some_row (get_or xs i (value.Bool false)) (valid_at v i)

-- a row that is a value is at a place of a value
pub some-inside : (v : Validity) (xs : List Value) (i : ℕ) → IsTrue (is_as_long v (length xs)) → is_some (get_or (rows_under v xs) i None) ≡ true → i < length xs
some-inside v xs i long s = by_place (cases_lt i (length xs))
  where
    by_place : (i < length xs) ⊎ (length xs ≤ i) → i < length xs
    by_place (inl l) = l
    by_place (inr l) = absurd (false≢true (ap is_some (sym (get_or_past (rows_under v xs) i None (omega (arith, l, length-rows v xs long)))) ∙ s))

-- and it is that value
pub value-at : (v : Validity) (xs : List Value) (i : ℕ) → IsTrue (is_as_long v (length xs)) → is_some (get_or (rows_under v xs) i None) ≡ true → get_or (rows_under v xs) i None ≡ slice_get xs i
value-at v xs i long s =
    let inside = some-inside v xs i long s in
    there (get_or xs i (value.Bool false)) (valid_at v i) (get_or (rows_under v xs) i None) (row-here v xs i (value.Bool false) long inside) s ∙ sym (slice_get-get_or xs i (value.Bool false) inside)

-- a value that is read from an item
pub read-inside : {X : Type 0} (f : X → Value) (xs : List X) (i : ℕ) → i < length (map f xs) → i < length xs
read-inside f xs i l = omega (arith, l, length-map xs f)

pub read-at : {X : Type 0} (f : X → Value) (xs : List X) (i : ℕ) (d : X) → i < length (map f xs) → slice_get (map f xs) i ≡ Some (f (get_or xs i d))
read-at f xs i d l = slice_get-map f xs i ∙ ap (option_map f) (slice_get-get_or xs i d (read-inside f xs i l))

-- and one that is read by way of a number
pub item-inside : {X Y : Type 0} (f : Y → Value) (g : X → Y) (xs : List X) (i : ℕ) → i < length (map f (map g xs)) → i < length xs
item-inside f g xs i l = omega (arith, l, length-map (map g xs) f, length-map xs g)

pub item-at : {X Y : Type 0} (f : Y → Value) (g : X → Y) (xs : List X) (i : ℕ) (d : X) → i < length (map f (map g xs)) → slice_get (map f (map g xs)) i ≡ Some (f (g (get_or xs i d)))
item-at f g xs i d l = slice_get-map f (map g xs) i ∙ ap (option_map f) (slice_get-map g xs i ∙ ap (option_map g) (slice_get-get_or xs i d (item-inside f g xs i l)))

-- two strings of one kind stand as their bytes do
pub strings-stand : (kind : StringKind) (a b : List ℕ) (o : Ordering) → o ≡ slice_cmp nat_cmp a b → row_cmp (Some (string_value kind a)) (Some (string_value kind b)) ≡ Some o
strings-stand Utf8 a b o h = ap (λ x. Some x) (sym h)
strings-stand Binary a b o h = ap (λ x. Some x) (sym h)
