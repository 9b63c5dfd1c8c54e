-- Truth values at places.
use Rattle.std.proofs.Common.{ℕ, ◌≡◌, ◌∙◌, Bool, false, List, length, map, refl, subst, sym}
use Rattle.std.specs.Prelude.{IsTrue}
use Rattle.std.proofs.lemmas.List.{length-map}
use Rattle.vortex_array_types.specs.declared.types.DType.TheVariants as dtype
use Rattle.vortex_array_types.specs.declared.scalar.Value.TheVariants as value
use Rattle.vortex_array_kinds.specs.Kinds.{bool_column}
use Rattle.vortex_array_kinds.specs.Parts.{PlainParts}
use Rattle.vortex_array_kinds.specs.Validities.{is_as_long}
use Rattle.vortex_array_kinds.specs.declared.validity.Validity.{Validity}
use Rattle.vortex_array_kinds.proofs.RowLemmas.{rows-counted}
use Rattle.vortex_array_select.specs.Selected.{taken}
use Rattle.vortex_array_select.specs.SelectedParts.{AreTaken, PlacesBelow, index_column, taken_validity, taken_values}
use Rattle.vortex_array_select.proofs.TakenRows.{are-taken-read, long-places, taken-column, taken-long}

-- places of rows are places of bits
pub places-of-bits : (a : PlainParts (List Bool)) (w : Validity) (places : List ℕ) → IsTrue (is_as_long a.validity (length a.values)) → PlacesBelow (length (bool_column a).rows) w places → PlacesBelow (length a.values) w places
places-of-bits a w places fits h =
    subst (λ (n : ℕ). PlacesBelow n w places) (rows-counted a.validity (map (λ b. value.Bool b) a.values) (length a.values) (length-map a.values (λ b. value.Bool b)) fits) h

truths_read : {P : Type 0} (f : P → ℕ) (a : PlainParts (List Bool)) (w : Validity) (places : List P) (bits : List Bool) → IsTrue (is_as_long w (length places)) → PlacesBelow (length a.values) w (map f places) → bits ≡ taken_values false w a.values (map f places)
    → AreTaken w (map f places) (map (λ b. value.Bool b) a.values) (map (λ b. value.Bool b) bits)
truths_read f a w places bits long below is = are-taken-read (λ b. value.Bool b) f false w a.values bits places long below is

-- the validity at places is as long as the bits there
pub truths-long : {P : Type 0} (f : P → ℕ) (a : PlainParts (List Bool)) (w : Validity) (places : List P) (bits : List Bool) → IsTrue (is_as_long w (length places)) → PlacesBelow (length a.values) w (map f places) → bits ≡ taken_values false w a.values (map f places)
    → IsTrue (is_as_long (taken_validity w (map f places) a.validity) (length bits))
truths-long f a w places bits long below is =
    let many : length bits ≡ length (map f places) = sym (length-map bits (λ b. value.Bool b)) ∙ (truths_read f a w places bits long below is).same_length in
    rw many (taken-long w a.validity (map f places) (long-places f w places long))

-- and both are the truth values at the places
pub truths-taken : {P : Type 0} (f : P → ℕ) (a : PlainParts (List Bool)) (w : Validity) (places : List P) (bits : List Bool) → IsTrue (is_as_long w (length places)) → PlacesBelow (length a.values) w (map f places) → bits ≡ taken_values false w a.values (map f places)
    → bool_column (record { values = bits; validity = taken_validity w (map f places) a.validity }) ≡ taken (index_column w (map f places)) (bool_column a)
truths-taken f a w places bits long below is =
    taken-column (λ (bs : List Bool) n. dtype.Bool n) (λ (bs : List Bool). map (λ b. value.Bool b) bs) a bits w (map f places) (λ m n. refl) (long-places f w places long) (λ n. refl) (truths_read f a w places bits long below is)
