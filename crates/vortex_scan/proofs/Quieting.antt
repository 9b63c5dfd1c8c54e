-- Sources that were asked until they gave nothing.
use Rattle.std.proofs.Common.{◌≡◌, ◌≢◌, ℕ, zero, suc, ◌-◌, ◌^◌, ◌<◌, ◌≤◌, List, [], ◌∷◌, refl, sym, ◌∙◌, ap, Bool, true, false, Option, None, Some, arith, length, inl, inr, ⊎_elim}
use Rattle.std.specs.Prelude.{slice_get, eqb}
use Rattle.std.specs.List.{AllByRecursion}
use Rattle.std.proofs.lemmas.Bool.{eqb-true}
use Rattle.std.proofs.lemmas.Bool.Decides.{nat_tests}
use Rattle.std.proofs.lemmas.Option.{slice_get_within}
use Rattle.vortex_buffer.specs.Counts.{Rose}
use Rattle.vortex_io.specs.declared.payload.Payload.{Ghosts as Meanings}
use Rattle.vortex_io.specs.declared.request.Completion.{Completion}
use Rattle.vortex_io.specs.declared.source.IoSource.{Ghosts}
use Rattle.vortex_scan.specs.declared.errors.Progress.{Progress}
use Rattle.vortex_scan.specs.declared.errors.Progress.TheVariants as progress
use Rattle.vortex_scan.specs.declared.item.Item.{Item}
use Rattle.vortex_scan.specs.declared.item.Slot.{Slot}
use Rattle.vortex_scan_types.specs.declared.place.RootId.{RootId}
use Rattle.vortex_scan.specs.declared.worker.Worker.{Ghosts as Works}
use Rattle.vortex_scan.specs.Asking.{is_live, root_at}
use Rattle.vortex_scan.specs.Fits.{ItemFits, LiveFits}
use Rattle.vortex_scan.specs.Going.{Advances, AsksAll, AsksOut, Gives}
use Rattle.vortex_scan.specs.RunState.{Live, NothingReady, RunState}
use Rattle.vortex_scan.specs.Sources.{KeepsEach}
use Rattle.vortex_scan.specs.Steps.{Asks}
use Rattle.vortex_scan.specs.Whole.{AreQuiet, IsAtRest}
use Rattle.vortex_scan.proofs.Keeping.{gives_keeps, goes_keeps, slot_after, slots_at}
use Rattle.vortex_scan.proofs.Places.{get_set, get_set_other}

pub rose_in_whole : (before between now : ℕ) → before ≤ between → Rose between now → Rose before now
rose_in_whole before between now more rose = ⊎_elim (λ less. inl (omega (arith, more, less))) (λ last. inr last) rose

pub rose_then : (before between now : ℕ) → Rose before between → between ≤ now → now < 2 ^ 64 - 1 → before < now
rose_then before between now rose more below = ⊎_elim (λ less. omega (arith, more, less)) (λ last. omega (arith, last, more, below)) rose

-- one source, found with nothing
abbrev pub IsQuiet : {S C : Type 0} → Ghosts S C → Slot S → Slot S → Type 0
IsQuiet source before after = Rose (source.quiet before.source) (source.quiet after.source) × (source.stale after.source ≡ false)

quiet_in_whole : {S C : Type 0} (source : Ghosts S C) (before between after : Slot S) → source.quiet before.source ≤ source.quiet between.source → IsQuiet source between after → IsQuiet source before after
quiet_in_whole source before between after more q = (rose_in_whole (source.quiet before.source) (source.quiet between.source) (source.quiet after.source) more q.0, q.1)

module _ {W S C E : Type 0} (works : Works W C E) (source : Ghosts S C) (payload : Meanings C) where
  -- asking one source leaves the others
  pub asks_other : (root : RootId) (answer : Option (Completion C)) (old new : Live W S) (other : ℕ) → other ≢ root.0 → Asks works source payload root answer old new → slice_get new.slots other ≡ slice_get old.slots other
  asks_other root answer old new other differs a = ap (λ (l : Live W S). slice_get l.slots other) a.now ∙ get_set_other old.slots root.0 other (record a.slot { source = a.after }) differs

  gives_other : (root times : ℕ) (old new : Live W S) (other : ℕ) → other ≢ root → Gives works source payload root times old new → slice_get new.slots other ≡ slice_get old.slots other
  gives_other root zero old new other differs g = ap (λ (l : Live W S). slice_get l.slots other) g
  gives_other root (suc times) old new other differs g = asks_other (root_at root) (Some g.1) g.0 new other differs g.3 ∙ gives_other root times old g.0 other differs g.2

  asks_out_other : (root : ℕ) (live : Bool) (old new : Live W S) (other : ℕ) → other ≢ root → AsksOut works source payload root live old new → slice_get new.slots other ≡ slice_get old.slots other
  asks_out_other root true old new other differs a = asks_other (root_at root) None a.1 new other differs a.3 ∙ gives_other root a.0 old a.1 other differs a.2
  asks_out_other root false old new other differs a = ap (λ (l : Live W S). slice_get l.slots other) a

  -- the source that was asked last
  pub asked_none : (root : RootId) (old new : Live W S) (after : Slot S) → Asks works source payload root None old new → slice_get new.slots root.0 ≡ Some after → (before : Slot S) × (slice_get old.slots root.0 ≡ Some before) × IsQuiet source before after
  asked_none root old new after a now =
      let set' : slice_get new.slots root.0 ≡ Some (record a.slot { source = a.after }) = ap (λ (l : Live W S). slice_get l.slots root.0) a.now ∙ get_set old.slots root.0 a.slot (record a.slot { source = a.after }) a.there in
      let same : (let s : Slot S = record a.slot { source = a.after } in s) ≡ after = cc in
      let is : source.quiet a.after ≡ source.quiet after.source = ap (λ (s : Slot S). source.quiet s.source) same in
      let is_stale : source.stale a.after ≡ source.stale after.source = ap (λ (s : Slot S). source.stale s.source) same in
      (a.slot, a.there, (rw is at (a.polls.none refl), sym is_stale ∙ a.polls.stale))

  asks_out_quiet : (root : ℕ) (live : Bool) (old new : Live W S) (before after : Slot S) → live ≡ true → AsksOut works source payload root live old new
      → slice_get old.slots root ≡ Some before → slice_get new.slots root ≡ Some after → IsQuiet source before after
  asks_out_quiet root true old new before after e a there now =
      let last = asked_none (root_at root) a.1 new after a.3 now in
      let kept = slots_at source old.slots a.1.slots root before last.0 (gives_keeps works source payload root a.0 old a.1 a.2) there last.1 in
      quiet_in_whole source before last.0 after kept.keeps.quiet last.2
  asks_out_quiet root false old new before after e a there now = absurd (cc)

  out_live : (root : ℕ) (live : Bool) (old new : Live W S) (after : Slot S) → live ≡ is_live (slice_get old.slots root) → AsksOut works source payload root live old new → slice_get new.slots root ≡ Some after → after.live ≡ true → live ≡ true
  out_live root true old new after e a now l = refl
  out_live root false old new after e a now l =
      let same : slice_get old.slots root ≡ Some after = sym (ap (λ (x : Live W S). slice_get x.slots root) a) ∙ now in
      e ∙ ap is_live same ∙ l

  -- a root behind those that were asked is as it was
  asks_all_behind : (roots : ℕ) (old new : Live W S) (other : ℕ) → roots ≤ other → AsksAll works source payload roots old new → slice_get new.slots other ≡ slice_get old.slots other
  asks_all_behind zero old new other behind a = ap (λ (l : Live W S). slice_get l.slots other) a
  asks_all_behind (suc root) old new other behind a =
      asks_out_other root (is_live (slice_get a.0.slots root)) a.0 new other (λ e. omega (arith, behind, e)) a.2 ∙ asks_all_behind root old a.0 other (omega (arith, behind)) a.1

  pub asks_all_quiet : (roots : ℕ) (old new : Live W S) (root : ℕ) (before after : Slot S) → root < roots → AsksAll works source payload roots old new
      → slice_get old.slots root ≡ Some before → slice_get new.slots root ≡ Some after → after.live ≡ true → IsQuiet source before after
  asks_all_quiet zero old new root before after within a there now live = absurd (omega (arith, within))
  asks_all_quiet (suc last) old new root before after within a there now live =
      elim (eqb root last) as (λ b. eqb root last ≡ b → IsQuiet source before after) [
        | true ↦ λ e.
            let same : root ≡ last = eqb-true _ _ e in
            let is : slice_get a.0.slots root ≡ Some before = asks_all_behind last old a.0 root (omega (arith, same)) a.1 ∙ there in
            let is' : slice_get a.0.slots last ≡ Some before = ap (λ n. slice_get a.0.slots n) (sym same) ∙ is in
            let now' : slice_get new.slots last ≡ Some after = ap (λ n. slice_get new.slots n) (sym same) ∙ now in
            asks_out_quiet last (is_live (slice_get a.0.slots last)) a.0 new before after (out_live last (is_live (slice_get a.0.slots last)) a.0 new after refl a.2 now' live) a.2 is' now'
        | false ↦ λ e.
            let differs : root ≢ last = λ h. let t : eqb root last ≡ true = grind (arith, nat_tests) in cc in
            let now' : slice_get a.0.slots root ≡ Some after = sym (asks_out_other last (is_live (slice_get a.0.slots last)) a.0 new root differs a.2) ∙ now in
            asks_all_quiet last old a.0 root before after (omega (arith, within, differs)) a.1 there now' live
      ] refl

  pub asks_all_are_quiet : (old new : Live W S) → AsksAll works source payload (length old.slots) old new → AreQuiet source old.slots new.slots
  asks_all_are_quiet old new a root before after there now live = asks_all_quiet (length old.slots) old new root before after (slice_get_within old.slots root before there) a there now live

  quiet_on : (a b d : List (Slot S)) → KeepsEach source a b → AreQuiet source b d → AreQuiet source a d
  quiet_on a b d k q root before after there now live =
      let mid = slot_after source a b root before k there in
      let kept = slots_at source a b root before mid.0 k there mid.1 in
      quiet_in_whole source before mid.0 after kept.keeps.quiet (q root mid.0 after mid.1 now live)

  each_waits : (slots : List (Slot S)) (owners : ℕ) (items : List (Item W)) → AllByRecursion (ItemFits source slots owners) items → NothingReady items → AllByRecursion (λ (item : Item W). (item.ready ≡ false) × (item.asked ≢ [])) items
  each_waits slots owners [] each idle = tt
  each_waits slots owners (item ∷ items) each idle = ((idle.0, each.0.parked idle.0), each_waits slots owners items each.1 idle.1)

  -- what holds where a call answers that the run waits
  pub at_rest : (old new : RunState W S) (answer : Progress) → LiveFits source new.live → Advances works source payload old new answer → answer ≡ progress.Waiting → IsAtRest source old.live new.live
  at_rest old new (progress.Batch batch) fits a e = absurd (cc)
  at_rest old new (progress.RootDone root) fits a e = absurd (cc)
  at_rest old new progress.Waiting fits a e =
      let t = a.ends in
      record {
        some = t.2;
        each = each_waits new.live.slots new.live.next_owner new.live.items fits.each t.1;
        quiet = quiet_on old.live.slots a.between.live.slots new.live.slots (goes_keeps works source payload a.turns old a.between a.goes) (asks_all_are_quiet a.between.live new.live t.0.1.asks);
      }
  at_rest old new progress.Idle fits a e = absurd (cc)
