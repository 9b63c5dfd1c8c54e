-- Roots that are cancelled, one after another.
use Rattle.std.proofs.Common.{◌≡◌, ◌∙◌, sym, ap, subst, refl, true, false, List, ◌++◌}
use Rattle.std.specs.Prelude.{Option, None, Some, slice_get}
use Rattle.vortex_io.specs.declared.source.IoSource.{Ghosts}
use Rattle.vortex_scan.specs.RunState.{Live}
use Rattle.vortex_scan.specs.Sources.{KeepsEach}
use Rattle.vortex_scan.specs.Steps.{CancelsLive}
use Rattle.vortex_scan.specs.declared.item.Slot.{Slot}
use Rattle.vortex_scan_types.specs.declared.place.RootId.{RootId}
use Rattle.vortex_scan.proofs.Keeping.{slot_after, slots_at}
use Rattle.vortex_scan.proofs.Kept.{each_on, each_same, each_with}
use Rattle.vortex_scan.proofs.Noting.{same_adds_nothing, same_faults_no_sure}
use Rattle.vortex_table_scan.specs.Taking.{Cancels}
use Rattle.vortex_table_scan.proofs.Placing.{adds_both}

-- a root that is cancelled, or was not live, leaves each source kept
pub cancel_keeps : {W S C : Type 0} (source : Ghosts S C) (root : RootId) (found : Option (Slot S)) (old new : Live W S) → slice_get old.slots root.0 ≡ found → CancelsLive source root found old new → KeepsEach source old.slots new.slots
cancel_keeps source root None old new there c = rw c (each_same source old.slots)
cancel_keeps {W} {S} source root (Some slot) old new there c =
    elim slot.live as (λ b. slot.live ≡ b → KeepsEach source old.slots new.slots) [
      | true ↦ λ live. let did = c.0 live in subst (λ (it : Live W S). KeepsEach source old.slots it.slots) (sym did.now)
          (each_with source old.slots root.0 slot (record { source = did.after; live = false }) there (record { keeps = did.clears.keeps; ends = λ e. absurd (cc) }))
      | false ↦ λ live. subst (λ (it : Live W S). KeepsEach source old.slots it.slots) (sym (c.1 live)) (each_same source old.slots)
    ] refl

module _ {S C : Type 0} (source : Ghosts S C) where
  pub cancels_none : (slots : List (Slot S)) → Cancels source slots slots
  cancels_none slots = record { keeps = each_same source slots; journals = same_adds_nothing source slots; sure = same_faults_no_sure source slots }

  pub cancels_then : (a b d : List (Slot S)) → Cancels source a b → Cancels source b d → Cancels source a d
  cancels_then a b d k l = record {
    keeps = each_on source a b d k.keeps l.keeps;
    journals = λ root added adds.
        let both = adds_both source root added a b d k.keeps l.keeps adds in
        let one = k.journals root both.first both.adds_first in
        let two = l.journals root both.then both.adds_then in
        both.both ∙ ap (λ list. list ++ both.then) one ∙ two;
    sure = λ root before after content there now sure is.
        let mid = slot_after source a b root.0 before k.keeps there in
        let same = slots_at source a b root.0 before mid.0 k.keeps there mid.1 in
        l.sure root mid.0 after content mid.1 now (same.keeps.sure ∙ sure) (same.keeps.content ∙ is) ∙ k.sure root before mid.0 content there mid.1 sure is;
  }
