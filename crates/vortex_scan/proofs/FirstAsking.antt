-- The first root that has an item with a fetch outstanding.
use Rattle.std.proofs.Common.{◌≡◌, ◌≢◌, ℕ, ◌+◌, ◌<◌, ◌≤◌, List, [], refl, subst, true, false, Option, None, Some, arith, inl, inr, ◌⊎◌, ⊎_elim, length}
use Rattle.std.specs.Prelude.{slice_get, ltb, MatchOption}
use Rattle.std.proofs.lemmas.Bool.{ltb-true}
use Rattle.std.proofs.lemmas.Bool.Decides.{nat_tests}
use Rattle.std.proofs.lemmas.Option.{slice_get_within}
use Rattle.vortex_scan.specs.declared.item.Item.{Item}
use Rattle.vortex_scan_types.specs.declared.place.RootId.{RootId}
use Rattle.vortex_scan.specs.Asking.{FirstOf, IsAsking, IsAskingBelow, IsFirstAsking}

module _ {W : Type 0} (items : List (Item W)) (i : ℕ) (item : Item W) (there : slice_get items i ≡ Some item) where
  below_more : (root : ℕ) → IsAskingBelow items i root → IsAskingBelow items (i + 1) root
  below_more root a = (a.0, omega (arith, a.1), a.2)

  below_split : (root : ℕ) → IsAskingBelow items (i + 1) root → IsAskingBelow items i root ⊎ ((item.root.0 ≡ root) × (item.asked ≢ []))
  below_split root a =
      elim (ltb a.0 i) as (λ b. ltb a.0 i ≡ b → IsAskingBelow items i root ⊎ ((item.root.0 ≡ root) × (item.asked ≢ []))) [
        | true ↦ λ e. inl (a.0, ltb-true a.0 i e, a.2)
        | false ↦ λ e.
            let lt : a.0 < i + 1 = a.1 in
            let same : a.0 ≡ i = grind (arith, nat_tests) in
            let got : slice_get items i ≡ Some a.2.0 = rw same at a.2.1 in
            let mine : a.2.0 ≡ item = cc in
            inr (subst (λ (x : Item W). (x.root.0 ≡ root) × (x.asked ≢ [])) mine (a.2.2, a.2.3))
      ] refl

  pub first_skip : (best : Option RootId) → item.asked ≡ [] → FirstOf items i best → FirstOf items (i + 1) best
  first_skip None none f = λ root a. ⊎_elim (λ b. f root b) (λ b. b.1 none) (below_split root a)
  first_skip (Some best) none f = (below_more best.0 f.0, λ other a. ⊎_elim (λ b. f.1 other b) (λ b. absurd (b.1 none)) (below_split other a))

  here : item.asked ≢ [] → IsAskingBelow items (i + 1) item.root.0
  here some = (i, omega arith, (item, there, refl, some))

  pub first_keep : (best : RootId) → best.0 ≤ item.root.0 → FirstOf items i (Some best) → FirstOf items (i + 1) (Some best)
  first_keep best le f = (below_more best.0 f.0, λ other a. ⊎_elim (λ b. f.1 other b) (λ b. omega (arith, le, b.0)) (below_split other a))

  pub first_begin : item.asked ≢ [] → FirstOf items i None → FirstOf items (i + 1) (Some item.root)
  first_begin some f = (here some, λ other a. ⊎_elim (λ b. absurd (f other b)) (λ b. omega (arith, b.0)) (below_split other a))

  pub first_take : (best : RootId) → item.asked ≢ [] → item.root.0 < best.0 → FirstOf items i (Some best) → FirstOf items (i + 1) (Some item.root)
  first_take best some lt f = (here some, λ other a. ⊎_elim (λ b. let g = f.1 other b in omega (arith, g, lt)) (λ b. omega (arith, b.0)) (below_split other a))

-- once all items were read
pub first_of_all : {W : Type 0} (items : List (Item W)) (n : ℕ) (best : Option RootId) → length items ≤ n → FirstOf items n best
    → MatchOption best ((root : ℕ) → ¬ IsAsking items root) (λ root. IsFirstAsking items root.0)
first_of_all items n None long f = λ root a. f root (a.0, (let h = slice_get_within items a.0 a.1 a.2 in omega (arith, h, long)), (a.1, a.2, a.3, a.4))
first_of_all items n (Some best) long f = record {
  asking = (f.0.0, f.0.2.0, f.0.2.1, f.0.2.2, f.0.2.3);
  first = λ other a. f.1 other (a.0, (let h = slice_get_within items a.0 a.1 a.2 in omega (arith, h, long)), (a.1, a.2, a.3, a.4));
}
