-- When indices are below a bound.
use Rattle.std.proofs.Common.{ℕ, zero, suc, ◌<◌, Bool, true, false, List, [], ◌∷◌, map, refl, subst, arith}
use Rattle.std.specs.Prelude.{pos, All}
use Rattle.vortex_array_types.specs.Row.{Column}
use Rattle.vortex_array_rows.specs.Taken.{SetPlacesBelow}
use Rattle.vortex_array_select.specs.Selected.{IndexBelow}
use Rattle.vortex_array_select.specs.SelectedParts.{PlacesBelow, index_column}
use Rattle.vortex_array_kinds.specs.declared.validity.Validity.{Validity}
use Rattle.vortex_array_kinds.specs.declared.validity.Validity.TheVariants.{NonNullable, AllValid, AllInvalid, Bits}
use Rattle.vortex_array.specs.Index.{number_column}
use Rattle.vortex_array.proofs.TakenAt.{same-indices}

all_below : (n : ℕ) (places : List ℕ) → All (λ i. i < n) places → All (IndexBelow n) (index_column AllValid places).rows
all_below n [] h i d l = absurd (omega (arith, l))
all_below n (p ∷ places) h zero d l = h 0 0 (omega arith)
all_below n (p ∷ places) h (suc i) d l = all_below n places (λ k e m. h (suc k) e (omega (arith, m))) i d (omega (arith, l))

nulls_below : (n : ℕ) (places : List ℕ) → All (IndexBelow n) (index_column AllInvalid places).rows
nulls_below n [] i d l = absurd (omega (arith, l))
nulls_below n (p ∷ places) zero d l = tt
nulls_below n (p ∷ places) (suc i) d l = nulls_below n places i d (omega (arith, l))

set_below : (n : ℕ) (places : List ℕ) (set : List Bool) → SetPlacesBelow n places set → All (IndexBelow n) (index_column (Bits set) places).rows
set_below n [] set h i d l = absurd (omega (arith, l))
set_below n (p ∷ places) [] h i d l = absurd (omega (arith, l))
set_below n (p ∷ places) (true ∷ set) h zero d l = h 0 (omega arith) refl
set_below n (p ∷ places) (false ∷ set) h zero d l = tt
set_below n (p ∷ places) (b ∷ set) h (suc i) d l = set_below n places set (λ k m e. h (suc k) (omega (arith, m)) e) i d (omega (arith, l))

-- places below a bound are indices below it
below_places : (n : ℕ) (w : Validity) (places : List ℕ) → PlacesBelow n w places → All (IndexBelow n) (index_column w places).rows
below_places n NonNullable places h = all_below n places h
below_places n AllValid places h = all_below n places h
below_places n AllInvalid places h = nulls_below n places
below_places n (Bits set) places h = set_below n places set h

-- and so the numbers of places
pub below-numbers : {P : Type 0} (f : P → ℕ) (n : ℕ) (w : Validity) (places : List P) → PlacesBelow n w (map f places) → All (IndexBelow n) (number_column w (map (λ p. pos (f p)) places)).rows
below-numbers f n w places h = subst (λ (c : Column). All (IndexBelow n) c.rows) (same-indices f w places) (below_places n w (map f places) h)
