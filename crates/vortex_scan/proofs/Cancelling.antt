-- What a run holds after a root was cancelled.
use Rattle.std.proofs.Common.{◌≡◌, ℕ, List, refl, ◌∙◌, ap, true, false, not, Option, None, Some, length, filter, inl, inr, ◌⊎◌, ⊎_elim}
use Rattle.std.specs.Prelude.{slice_get}
use Rattle.std.proofs.Math.ListN.{set, length-set}
use Rattle.vortex_io.specs.declared.ids.IoRequestId.{IoRequestId}
use Rattle.vortex_io.specs.declared.request.IoTarget.{IoTarget}
use Rattle.vortex_io.specs.declared.source.IoSource.{Ghosts}
use Rattle.vortex_scan.specs.declared.item.Slot.{Slot}
use Rattle.vortex_scan.specs.declared.state.State.{State}
use Rattle.vortex_scan_types.specs.declared.place.RootId.{RootId}
use Rattle.vortex_scan.specs.Fits.{RunHolds}
use Rattle.vortex_scan.specs.RunState.{Live, RunState, is_of_root}
use Rattle.vortex_scan.specs.Seats.{ArePlanned}
use Rattle.vortex_scan.specs.Steps.{CancelsLive}
use Rattle.vortex_scan.proofs.Fitting.{cancel_fits}
use Rattle.vortex_scan.proofs.Named.{cancel_named}
use Rattle.vortex_scan.proofs.Planned.{cancel_planned}
use Rattle.vortex_scan.proofs.Rooted.{cancel_peopled}

module _ {W S C : Type 0} (source : Ghosts S C) where
  -- what a cancelled root leaves
  cancelled : (root : RootId) (found : Option (Slot S)) (old new : Live W S) → CancelsLive source root found old new
      → (new ≡ old) ⊎ ((slot' : Slot S) × (new ≡ record old { items = filter (λ item. not (is_of_root root item)) old.items; slots = set old.slots root.0 slot' }))
  cancelled root None old new c = inl c
  cancelled root (Some slot) old new c =
      elim slot.live as (λ b. slot.live ≡ b → (new ≡ old) ⊎ ((slot' : Slot S) × (new ≡ record old { items = filter (λ item. not (is_of_root root item)) old.items; slots = set old.slots root.0 slot' })))
      [ true ↦ λ e. let did = c.0 e in inr (record { source = did.after; live = false }, did.now) | false ↦ λ e. inl (c.1 e) ] refl

  pub cancel_holds : (names : W → IoRequestId → Option IoTarget) (tells plans : Type 0) (state_is : W → State) (publishes : W → Type 0) (room : List S) (capacity : ℕ) (run : RunState W S) (root : RootId) (found : Option (Slot S)) (new : Live W S) → slice_get run.live.slots root.0 ≡ found → RunHolds names tells plans (ArePlanned state_is publishes) source room capacity run → CancelsLive source root found run.live new
      → RunHolds names tells plans (ArePlanned state_is publishes) source room capacity (record run { live = new })
  cancel_holds names tells plans state_is publishes room capacity run root found new there holds c =
      ⊎_elim (λ e. rw e holds)
      (λ p.
      let slots = ap (λ (l : Live W S). l.slots) p.1 in
      let long = ap length slots ∙ length-set run.live.slots root.0 p.0 in
      record {
        none = holds.none;
        enough = rw long holds.enough;
        fits = λ well. let f = holds.fits well in record {
          roots = long ∙ f.roots;
          live = rw p.1 (cancel_fits source run.live.items run.live.slots run.live.next_owner root p.0 f.live);
          peopled = cancel_peopled source root found run.live new there c f.peopled;
          since = f.since;
        };
        named = λ told well. cancel_named names source root found run.live new there c (holds.named told well);
        planned = λ told well. cancel_planned source state_is publishes root found run.live new c (holds.planned told well);
      })
      (cancelled root found run.live new c)
