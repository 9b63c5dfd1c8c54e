-- A run that fits does so after its sources were asked or waited for.
use Rattle.std.proofs.Common.{◌≡◌, ◌≢◌, ℕ, zero, suc, ◌<◌, List, [], ◌∷◌, refl, sym, ◌∙◌, ap, subst, Bool, true, false, Option, None, Some, arith, length}
use Rattle.std.specs.Prelude.{slice_get}
use Rattle.std.specs.List.{AllByRecursion, list_any}
use Rattle.std.proofs.Math.ListN.{set}
use Rattle.vortex_io.specs.declared.payload.Payload.{Ghosts as Meanings}
use Rattle.vortex_io.specs.declared.request.Completion.{Completion}
use Rattle.vortex_io.specs.declared.request.Fetch.{Fetch}
use Rattle.vortex_io.specs.declared.source.IoSource.{Ghosts}
use Rattle.vortex_io.specs.Source.{is_named}
use Rattle.vortex_scan.specs.declared.item.Slot.{Slot}
use Rattle.vortex_scan_types.specs.declared.place.RootId.{RootId}
use Rattle.vortex_scan.specs.declared.worker.Worker.{Ghosts as Works}
use Rattle.vortex_scan.specs.Asking.{AsksLive, AsksOnce, IsAsking, is_live, root_at}
use Rattle.vortex_scan.specs.Fits.{ItemFits, LiveFits}
use Rattle.vortex_scan.specs.Going.{AsksAll, AsksOut, Gives}
use Rattle.vortex_scan.specs.RunState.{Live, live_with}
use Rattle.vortex_scan.specs.Steps.{Asks, WaitsFor}
use Rattle.vortex_scan.proofs.Fitting.{called_fits, completed_fits}
use Rattle.vortex_scan.proofs.Places.{each_at}

module _ {W S C E : Type 0} (works : Works W C E) (source : Ghosts S C) (payload : Meanings C) where
  pub asks_fits : (root : RootId) (answer : Option (Completion C)) (old new : Live W S) → LiveFits source old → Asks works source payload root answer old new → LiveFits source new
  asks_fits root None old new fits a =
      let slots' = set old.slots root.0 (record a.slot { source = a.after }) in
      let e : new ≡ live_with old.items slots' old.next_owner = a.now ∙ ap (λ z. live_with z slots' old.next_owner) a.delivers in
      subst (λ (z : Live W S). LiveFits source z) (sym e) (called_fits source old.items old.slots old.next_owner root.0 a.slot a.after fits a.there a.polls.accounts)
  asks_fits root (Some completion) old new fits a =
      subst (λ (z : Live W S). LiveFits source z) (sym a.now)
      (completed_fits source works payload.means old.items new.items old.slots old.next_owner (source.lies a.slot.source) (source.lies a.after) root a.slot a.after completion fits a.there a.polls.accounts a.delivers)

  pub waits_fits : (root : RootId) (old new : Live W S) → LiveFits source old → WaitsFor works source payload root old new → LiveFits source new
  waits_fits root old new fits a =
      subst (λ (z : Live W S). LiveFits source z) (sym a.now)
      (completed_fits source works payload.means old.items new.items old.slots old.next_owner (source.lies a.slot.source) (source.lies a.after) root a.slot a.after a.completion fits a.there a.waits.accounts a.delivers)

  pub asks_live_fits : (root : ℕ) (live : Bool) (old new : Live W S) (came : Bool) → LiveFits source old → AsksLive works source payload root live old new came → LiveFits source new
  asks_live_fits root true old new came fits a = asks_fits (root_at root) a.0 old new fits a.1
  asks_live_fits root false old new came fits a = rw a.0 fits

  pub asks_once_fits : (roots : ℕ) (old new : Live W S) (came : Bool) → LiveFits source old → AsksOnce works source payload roots old new came → LiveFits source new
  asks_once_fits zero old new came fits a = rw a.0 fits
  asks_once_fits (suc root) old new came fits a = asks_live_fits root (is_live (slice_get a.0.slots root)) a.0 new a.2 (asks_once_fits root old a.0 a.1 fits a.3) a.4

  pub gives_fits : (root times : ℕ) (old new : Live W S) → LiveFits source old → Gives works source payload root times old new → LiveFits source new
  gives_fits root zero old new fits a = rw a fits
  gives_fits root (suc times) old new fits a = asks_fits (root_at root) (Some a.1) a.0 new (gives_fits root times old a.0 fits a.2) a.3

  pub asks_out_fits : (root : ℕ) (live : Bool) (old new : Live W S) → LiveFits source old → AsksOut works source payload root live old new → LiveFits source new
  asks_out_fits root true old new fits a = asks_fits (root_at root) None a.1 new (gives_fits root a.0 old a.1 fits a.2) a.3
  asks_out_fits root false old new fits a = rw a fits

  pub asks_all_fits : (roots : ℕ) (old new : Live W S) → LiveFits source old → AsksAll works source payload roots old new → LiveFits source new
  asks_all_fits zero old new fits a = rw a fits
  asks_all_fits (suc root) old new fits a = asks_out_fits root (is_live (slice_get a.0.slots root)) a.0 new (asks_all_fits root old a.0 fits a.1) a.2

some_passes : {A : Type 0} (p : A → Bool) (xs : List A) → list_any p xs ≡ true → 0 < length xs
some_passes p [] e = absurd (cc)
some_passes p (x ∷ xs) e = omega arith

first_kept : (asked outstanding : List Fetch) → asked ≢ [] → AllByRecursion (λ (fetch : Fetch). list_any (is_named fetch.owner fetch.request) outstanding ≡ true) asked → 0 < length outstanding
first_kept [] outstanding some kept = absurd (some refl)
first_kept (fetch ∷ asked) outstanding some kept = some_passes (is_named fetch.owner fetch.request) outstanding kept.0

-- what an item has outstanding is outstanding at its root's source
pub some_outstanding : {W S C : Type 0} (source : Ghosts S C) (live : Live W S) (root : ℕ) (slot : Slot S) → LiveFits source live → IsAsking live.items root → slice_get live.slots root ≡ Some slot → 0 < length (source.outstanding slot.source)
some_outstanding {W} source live root slot fits a there =
    let item = a.1 in
    let f = each_at (ItemFits source live.slots live.next_owner) live.items a.0 item fits.each a.2 in
    let h : slice_get live.slots root ≡ Some f.slot = subst (λ (n : ℕ). slice_get live.slots n ≡ Some f.slot) a.3 f.there in
    let mine : f.slot ≡ slot = cc in
    first_kept item.asked (source.outstanding slot.source) a.4 (rw mine at f.kept)

-- the slot of a root that has an item is live
pub asking_live : {W S C : Type 0} (source : Ghosts S C) (live : Live W S) (root : ℕ) → LiveFits source live → IsAsking live.items root → (slot : Slot S) × (slice_get live.slots root ≡ Some slot) × (slot.live ≡ true)
asking_live source live root fits a =
    let f = each_at (ItemFits source live.slots live.next_owner) live.items a.0 a.1 fits.each a.2 in
    (f.slot, subst (λ (n : ℕ). slice_get live.slots n ≡ Some f.slot) a.3 f.there, f.live)
