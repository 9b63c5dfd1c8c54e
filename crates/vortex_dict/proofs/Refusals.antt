-- Codes that are no places of values.
use Rattle.std.proofs.Common.{ℕ, ◌<◌, ◌≤◌, ◌≡◌, Bool, true, false, cond, List, length, get_or, take, refl, sym, ap, subst, ◌∙◌, arith, Some, None, length-take}
use Rattle.std.specs.Prelude.{pos}
use Rattle.std.proofs.lemmas.List.{get_or-take, get_or_default}
use Rattle.std.proofs.lemmas.List.Elements.{All-from_get_or}
use Rattle.vortex_array_types.specs.declared.scalar.Value.TheVariants as value
use Rattle.vortex_array_kinds.specs.Validities.{valid_at}
use Rattle.vortex_array_kinds.specs.declared.validity.Validity.{Validity}
use Rattle.vortex_array_kinds.specs.declared.validity.Validity.TheVariants.{NonNullable, AllValid, AllInvalid, Bits}
use Rattle.vortex_array_select.specs.Selected.{IndexBelow}
use Rattle.vortex_array_select.specs.SelectedParts.{PlacesBelow}
use Rattle.vortex_array_select.proofs.TakenRows.{index_rows}
use Rattle.vortex_dict.specs.Refused.{FirstOutside}
use Rattle.vortex_dict.proofs.Named.{index-at}

-- places of which each that is not null is below n
pub all-places : (n : ℕ) (w : Validity) (places : List ℕ) → ((k : ℕ) → k < length places → valid_at w k ≡ true → get_or places k 0 < n) → PlacesBelow n w places
all-places n NonNullable places below = λ k d l. rw (get_or_default places k d 0 l) (below k l refl)
all-places n AllValid places below = λ k d l. rw (get_or_default places k d 0 l) (below k l refl)
all-places n AllInvalid places below = tt
all-places n (Bits set) places below = below

bit_below : (n i : ℕ) (b : Bool) → (b ≡ true → i < n) → IndexBelow n (cond b (Some (value.Int (pos i))) None)
bit_below n i true below = below refl
bit_below n i false below = tt

-- the first place that is not null and not below n is the first such code
pub first-place : (n : ℕ) (w : Validity) (places : List ℕ) (row code : ℕ) → row < length places → valid_at w row ≡ true → code ≡ get_or places row 0 → n ≤ get_or places row 0
    → ((k : ℕ) → k < row → valid_at w k ≡ true → get_or places k 0 < n) → FirstOutside (index_rows w places) n row code
first-place n w places row code inside valid is out below = record {
  there = index-at w places row inside ∙ ap (λ b. cond b (Some (value.Int (pos (get_or places row 0)))) None) valid ∙ ap (λ i. Some (value.Int (pos i))) (sym is);
  outside = omega (arith, out, is);
  before = All-from_get_or (IndexBelow n) (take row (index_rows w places)) None
      (λ k l.
      let early : k < row = omega (arith, l, length-take row (index_rows w places)) in
      subst (IndexBelow n) (sym (get_or-take row (index_rows w places) k None early ∙ index-at w places k (omega (arith, early, inside)))) (bit_below n (get_or places k 0) (valid_at w k) (below k early)));
}
