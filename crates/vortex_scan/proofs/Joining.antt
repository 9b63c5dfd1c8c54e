-- Roots stay in step as one joins, and as one is cancelled.
use Rattle.std.proofs.Common.{◌≡◌, ◌≢◌, ℕ, zero, suc, ◌+◌, List, [], ◌∷◌, ◌++◌, refl, sym, ◌∙◌, ap, Bool, true, false, cond, not, Option, None, Some, arith, length, filter, inl, inr, ◌⊎◌, ⊎_elim}
use Rattle.std.specs.Prelude.{slice_get, count_by, sum_by}
use Rattle.std.specs.List.{AllByRecursion}
use Rattle.std.proofs.Math.ListN.{set}
use Rattle.std.proofs.lemmas.Bool.Decides.{nat_tests}
use Rattle.std.proofs.lemmas.List.Sums.{sum_by-cons}
use Rattle.std.proofs.lemmas.Option.{slice_get_within}
use Rattle.vortex_io.specs.declared.request.Fetch.{Fetch}
use Rattle.vortex_io.specs.declared.source.IoSource.{Ghosts}
use Rattle.vortex_scan.specs.declared.item.Item.{Item}
use Rattle.vortex_scan.specs.declared.item.Slot.{Slot}
use Rattle.vortex_scan_types.specs.declared.place.RootId.{RootId}
use Rattle.vortex_scan.specs.Fits.{ItemFits, LiveFits}
use Rattle.vortex_scan.specs.InStep.{StaysInStep, kept_of}
use Rattle.vortex_scan.specs.RunState.{Live, is_of_root, live_with}
use Rattle.vortex_scan.specs.Steps.{Cancels, CancelsLive}
use Rattle.vortex_scan.proofs.Tallies.{none_sum}
use Rattle.vortex_scan.proofs.Places.{each_weaker, get_set, get_set_other}
use Rattle.vortex_scan.proofs.Stepping.{kept_other, pushed, stays_by, stays_same}

get_pushed : {A : Type 0} (xs : List A) (y : A) (i : ℕ) (z : A) → slice_get (xs ++ y ∷ []) i ≡ Some z → (slice_get xs i ≡ Some z) ⊎ ((i ≡ length xs) × (y ≡ z))
get_pushed [] y zero z e = inr (refl, cc)
get_pushed [] y (suc i) z e = absurd (cc)
get_pushed (x ∷ xs) y zero z e = inl e
get_pushed (x ∷ xs) y (suc i) z e = ⊎_elim (λ h. inl h) (λ h. inr (ap (λ n. suc n) h.0, h.1)) (get_pushed xs y i z e)

module _ {W S C : Type 0} (source : Ghosts S C) where
  none_of_new : (slots : List (Slot S)) (owners : ℕ) (items : List (Item W)) (root : RootId) (test : Fetch → Bool) → root.0 ≡ length slots → AllByRecursion (ItemFits source slots owners) items → sum_by (kept_of root test) items ≡ 0
  none_of_new slots owners items root test new each =
      none_sum (kept_of root test) items
      (each_weaker (ItemFits source slots owners) (λ (item : Item W). kept_of root test item ≡ 0) items
      (λ item f. let within = slice_get_within slots item.root.0 f.slot f.there in kept_other root test item (λ e. omega (arith, within, new, e))) each)

  pub admit_stays : (items : List (Item W)) (slots : List (Slot S)) (owners owners' : ℕ) (slot : Slot S) (item : Item W) → LiveFits source (live_with items slots owners) → source.outstanding slot.source ≡ [] → item.asked ≡ []
      → StaysInStep source (live_with items slots owners) (live_with (items ++ item ∷ []) (slots ++ slot ∷ []) owners')
  admit_stays items slots owners owners' slot item fits idle none root was now there live test =
      let more = pushed items item root test none in
      ⊎_elim (λ old. was now old live test ∙ sym more)
      (λ last.
      let out : count_by test (source.outstanding now.source) ≡ 0 = ap (λ (s : Slot S). count_by test (source.outstanding s.source)) (sym last.1) ∙ ap (count_by test) idle in
      let zero_sum = none_of_new slots owners items root test last.0 fits.each in
      out ∙ sym (more ∙ zero_sum))
      (get_pushed slots slot root.0 now there)

  filter_sum : (gone root : RootId) (test : Fetch → Bool) (items : List (Item W)) → root.0 ≢ gone.0 → sum_by (kept_of root test) (filter (λ item. not (is_of_root gone item)) items) ≡ sum_by (kept_of root test) items
  filter_sum gone root test [] differs = refl
  filter_sum gone root test (x ∷ xs) differs =
      let t = filter_sum gone root test xs differs in
      let h = sum_by-cons (kept_of root test) x xs in
      elim (is_of_root gone x) as
      (λ b. is_of_root gone x ≡ b → sum_by (kept_of root test) (cond (not b) (x ∷ filter (λ item. not (is_of_root gone item)) xs) (filter (λ item. not (is_of_root gone item)) xs)) ≡ sum_by (kept_of root test) (x ∷ xs)) [
        | true ↦ λ e.
            let mine : is_of_root root x ≡ false = grind (arith, nat_tests) in
            let z : kept_of root test x ≡ 0 = ap (λ b. cond b (count_by test x.asked) 0) mine in
            t ∙ sym (h ∙ ap (λ n. n + sum_by (kept_of root test) xs) z ∙ (let plain : 0 + sum_by (kept_of root test) xs ≡ sum_by (kept_of root test) xs = omega arith in plain))
        | false ↦ λ e. sum_by-cons (kept_of root test) x (filter (λ item. not (is_of_root gone item)) xs) ∙ ap (λ n. kept_of root test x + n) t ∙ sym h
      ] refl

  cancels_stays : (root : RootId) (slot : Slot S) (old new : Live W S) → slice_get old.slots root.0 ≡ Some slot → Cancels source root slot old new → StaysInStep source old new
  cancels_stays root slot old new there c =
      let slot' : Slot S = record { source = c.after; live = false } in
      let new' : Live W S = record old { items = filter (λ item. not (is_of_root root item)) old.items; slots = set old.slots root.0 slot' } in
      rw c.now (stays_by source root old new' (λ other differs. get_set_other old.slots root.0 other slot' differs) (λ other test differs. filter_sum root other test old.items differs)
      (λ was now got live test.
      let set' = get_set old.slots root.0 slot slot' there in
      let same : slot' ≡ now = cc in
      let ended : now.live ≡ false = sym (ap (λ (s : Slot S). s.live) same) in
      absurd (cc)))

  pub cancel_stays : (root : RootId) (found : Option (Slot S)) (old new : Live W S) → slice_get old.slots root.0 ≡ found → CancelsLive source root found old new → StaysInStep source old new
  cancel_stays root None old new there c = rw c (stays_same source old)
  cancel_stays root (Some slot) old new there c =
      elim slot.live as (λ b. slot.live ≡ b → StaysInStep source old new) [ true ↦ λ e. cancels_stays root slot old new there (c.0 e) | false ↦ λ e. rw (c.1 e) (stays_same source old) ] refl

pub not_failed : (failed : Bool) → (failed ≡ true → ⊥) → failed ≡ false
not_failed true f = absurd (f refl)
not_failed false f = refl
