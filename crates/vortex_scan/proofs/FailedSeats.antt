-- Seats in calls that fail: what the step that fails fetches is among them too.
use Rattle.std.proofs.Common.{◌≡◌, ℕ, ◌+◌, List, [], ◌++◌, refl, sym, ◌∙◌, ap, subst, Bool, true, false, cond, Option, None, Some, Ok, Err, Result, arith, ◌⊎◌, ⊎_elim}
use Rattle.std.specs.Prelude.{slice_get, count_by}
use Rattle.std.proofs.lemmas.List.Concat.{flat_map-append}
use Rattle.vortex_array.specs.Batch.{BatchParts}
use Rattle.vortex_io.specs.Source.{Content, grown}
use Rattle.vortex_io.specs.declared.ids.IoOwnerId.{IoOwnerId}
use Rattle.vortex_io.specs.declared.payload.Payload.{Ghosts as Meanings}
use Rattle.vortex_io.specs.declared.request.IoError.{IoError}
use Rattle.vortex_io.specs.declared.request.IoRequest.{IoRequest}
use Rattle.vortex_io.specs.declared.request.IoTarget.{IoTarget}
use Rattle.vortex_io.specs.declared.request.JournalEntry.{JournalEntry}
use Rattle.vortex_io.specs.declared.source.IoSource.{Ghosts}
use Rattle.vortex_scan_types.specs.declared.place.RootId.{RootId}
use Rattle.vortex_scan.specs.declared.errors.RunError.{RunError}
use Rattle.vortex_scan.specs.declared.item.Item.{Item}
use Rattle.vortex_scan.specs.declared.item.Slot.{Slot}
use Rattle.vortex_scan.specs.declared.state.Output.{Output}
use Rattle.vortex_scan.specs.declared.state.Output.TheVariants as output
use Rattle.vortex_scan.specs.declared.state.State.{State}
use Rattle.vortex_scan.specs.declared.state.State.TheVariants as state
use Rattle.vortex_scan.specs.declared.worker.Worker.{Ghosts as Works}
use Rattle.vortex_scan.specs.Fails.{AskFails, FollowGives, IsGiven, PollMisses, PollRefused, VisitGives}
use Rattle.vortex_scan.specs.Going.{AdvanceFails}
use Rattle.vortex_scan.specs.Plans.{IsSpent, fetched}
use Rattle.vortex_scan.specs.RunState.{Live, RunState, is_of_root}
use Rattle.vortex_scan.specs.Seats.{IsTold, Seating, SpendsAtMost, SurelyStands, entry_targets, fetched_in, seats, seats_at, targets_of}
use Rattle.vortex_scan.specs.Sources.{KeepsEach}
use Rattle.vortex_scan.specs.Steps.{computed}
use Rattle.vortex_scan.proofs.Chains.{advance_breaks}
use Rattle.vortex_scan.proofs.Journals.{AskedAt, ask_fails_asks, at_same, given_asks, noted_of}
use Rattle.vortex_scan.proofs.Keeping.{slot_after, slots_at}
use Rattle.vortex_scan.proofs.Kept.{each_called, each_same, grown_twice}
use Rattle.vortex_scan.proofs.Passing.{passes_set}
use Rattle.vortex_scan.proofs.Planning.{WorkPlans}
use Rattle.vortex_scan.proofs.Seated.{Passed, fetched_noted, lacks, none_outside, passes_at}
use Rattle.vortex_scan.proofs.Tallies.{count_join}
use Rattle.vortex_scan.proofs.WholeSeats.{Keeps', Names, Seats', none_lacking, noted_is, seating_on, told_early}

-- What a step that fails did: what a root's source noted, which its seats had.
record Failed {W S C : Type 0} (source : Ghosts S C) (seating : Seating W C) (root : RootId) (told : Option (Content C)) (old new : Live W S) : Type 0 where
  noted : List JournalEntry
  journal : (before after : Slot S) → slice_get old.slots root.0 ≡ Some before → slice_get new.slots root.0 ≡ Some after → source.journal after.source ≡ grown (source.journal before.source) noted
  spent : IsSpent (targets_of (seats seating root told old.items)) (fetched_in noted) []
  stands : (before after : Slot S) (content : Content C) → slice_get old.slots root.0 ≡ Some before → slice_get new.slots root.0 ≡ Some after → source.sure before.source ≡ true → source.content before.source ≡ Some content
      → count_by (lacks content) (targets_of (seats seating root told old.items)) ≡ 0 → source.faults after.source ≡ source.faults before.source

spends_none : (targets : List IoTarget) → IsSpent targets [] []
spends_none targets test = let none : count_by test [] ≡ 0 = refl in omega (arith, none)

module _ {W S C : Type 0} (source : Ghosts S C) (seating : Seating W C) (root : RootId) (told : Option (Content C)) where
  failed_by : (old new : Live W S) (noted : List JournalEntry) (batch : List IoRequest) → AskedAt source root noted batch old.slots new.slots
      → IsSpent (targets_of (seats seating root told old.items)) (fetched batch) [] → IsSpent (targets_of (seats seating root told old.items)) (fetched_in noted) [] → Failed source seating root told old new
  failed_by old new noted batch asked fetches spent = record {
    noted = noted;
    journal = λ before after there now. (asked before after there now).journal;
    spent = spent;
    stands = λ before after content there now sure is none.
        let h = fetches (lacks content) in
        (asked before after there now).stands content sure is (none_outside content batch (omega (arith, h, none)));
  }

  -- a step that fails without a fetch
  failed_idly : (old new : Live W S) → AskedAt source root [] [] old.slots new.slots → Failed source seating root told old new
  failed_idly old new asked = failed_by old new [] [] asked (spends_none (targets_of (seats seating root told old.items))) (spends_none (targets_of (seats seating root told old.items)))

  failed_on : (gives_such : BatchParts → Bool) (a b d : Live W S) → KeepsEach source a.slots b.slots → Passed source seating gives_such root told [] a b → Failed source seating root told b d → Failed source seating root told a d
  failed_on gives_such a b d k first then = record {
    noted = first.noted ++ then.noted;
    journal = λ before after there now.
        let mid = slot_after source a.slots b.slots root.0 before k there in
        then.journal mid.0 after mid.1 now ∙ ap (λ t. grown t then.noted) (first.journal before mid.0 there mid.1) ∙ grown_twice (source.journal before.source) first.noted then.noted;
    spent = λ test.
        let one = first.passes.spent test in
        let two = then.spent test in
        let j = ap (count_by test) (flat_map-append entry_targets first.noted then.noted) ∙ count_join test (fetched_in first.noted) (fetched_in then.noted) in
        let none : count_by test [] ≡ 0 = refl in
        omega (arith, one, two, j, none);
    stands = λ before after content there now sure is none.
        let mid = slot_after source a.slots b.slots root.0 before k there in
        let one = slots_at source a.slots b.slots root.0 before mid.0 k there mid.1 in
        let h = first.passes.spent (lacks content) in
        then.stands mid.0 after content mid.1 now (one.keeps.sure ∙ sure) (one.keeps.content ∙ is) (omega (arith, h, none)) ∙ first.stands before mid.0 content there mid.1 sure is none;
  }

-- what is noted of a batch is fetched by it, or nothing
noted_spent : {S C : Type 0} (source : Ghosts S C) (targets : List IoTarget) (b : Bool) (owner : IoOwnerId) (batch : List IoRequest) (answer : Result (Unit {0}) IoError) → IsSpent targets (fetched (cond b batch [])) []
    → IsSpent targets (fetched_in (cond b (noted_of source owner batch answer) [])) []
noted_spent source targets true owner batch (Ok it) s = rw (fetched_noted owner batch) s
noted_spent source targets true owner batch (Err cause) s = spends_none targets
noted_spent source targets false owner batch answer s = s

module _ {W S C E V : Type 0} (works : Works W C E) (source : Ghosts S C) (means : C → V) (seating : Seating W C) (gives_such : BatchParts → Bool) (publishes : W → Type 0) (laws : WorkPlans means works seating gives_such publishes)
    (root : RootId) (told : Option (Content C)) where
  fails_same : (old new : Live W S) → new.slots ≡ old.slots → Failed source seating root told old new
  fails_same old new same = failed_idly source seating root told old new (subst (λ (slots : List (Slot S)). AskedAt source root [] [] old.slots slots) (sym same) (at_same source old.slots root))

  fails_given : (batch : List IoRequest) (at : ℕ) (item : Item W) (work : W) (old new : Live W S) → slice_get old.items at ≡ Some item → works.computes item.work (Ok (output.NeedsIO batch)) work → IsGiven source (computed item work) batch old.slots new.slots
      → Failed source seating root told old new
  fails_given batch at item work old new there did given =
      let b = is_of_root root item in
      let p = passes_at b (seating told item.path item.next item.scope item.work) (seating told item.path item.next item.scope work) batch (laws.passes told item.path item.next item.scope item.work (Ok (output.NeedsIO batch)) work did) in
      let all = passes_set (seats_at seating root told) old.items at item (computed item work) (fetched (cond b batch [])) there p in
      let less : IsSpent (targets_of (seats seating root told old.items)) (fetched (cond b batch [])) [] = λ test. let h = all.spent test in let none : count_by test [] ≡ 0 = refl in omega (arith, h, none) in
      failed_by source seating root told old new (cond b (noted_of source item.owner batch given.answer) []) (cond b batch []) (given_asks source (computed item work) batch old.slots new.slots root given)
      less (noted_spent source (targets_of (seats seating root told old.items)) b item.owner batch given.answer less)

  fails_following : (answer : Result (Output W) E) (at : ℕ) (item : Item W) (work : W) (old new : Live W S) → slice_get old.items at ≡ Some item → works.computes item.work answer work → FollowGives source answer (computed item work) old.slots new.slots
      → Failed source seating root told old new
  fails_following (Err failure) at item work old new there did g = fails_same old new g
  fails_following (Ok output.Done) at item work old new there did g = fails_same old new g
  fails_following (Ok output.Continue) at item work old new there did g = fails_same old new g
  fails_following (Ok (output.NeedsIO batch)) at item work old new there did g = ⊎_elim (λ same. fails_same old new same) (λ given. fails_given batch at item work old new there did given) g
  fails_following (Ok (output.Child scope child)) at item work old new there did g = fails_same old new g
  fails_following (Ok (output.Batch array)) at item work old new there did g = fails_same old new g

  visit_failed : (shown : State) (at : ℕ) (item : Item W) (old new : Live W S) → slice_get old.items at ≡ Some item → VisitGives works source shown item old.slots new.slots → Failed source seating root told old new
  visit_failed state.Done at item old new there g = fails_same old new g
  visit_failed state.Waiting at item old new there g = fails_same old new g
  visit_failed state.NeedsCompute at item old new there g = fails_following g.0 at item g.1 old new there g.2.computes g.3

-- a source that is asked in vain is kept
ask_fails_keeps : {W S C E : Type 0} (works : Works W C E) (source : Ghosts S C) (payload : Meanings C) (asker : RootId) (old new : Live W S) (why : RunError E) → AskFails works source payload asker old new why → KeepsEach source old.slots new.slots
ask_fails_keeps {W} {S} {C} {E} works source payload asker old new why f =
    ⊎_elim (λ m. refused m.1)
    (λ r. ⊎_elim (λ q. refused q.1)
    (λ (m : PollMisses works source payload asker old new why).
    subst (λ (slots : List (Slot S)). KeepsEach source old.slots slots) (sym m.now) (each_called source old.slots asker.0 m.slot m.after m.there m.polls.keeps)) r) f
  where
    refused : {cause : IoError} → PollRefused source payload cause asker old new → KeepsEach source old.slots new.slots
    refused p = subst (λ (slots : List (Slot S)). KeepsEach source old.slots slots) (sym p.now) (each_called source old.slots asker.0 p.slot p.after p.there p.polls.keeps)

-- a call that went on to a step that fails
ending : {W S C : Type 0} (source : Ghosts S C) (seating : Seating W C) (gives_such : BatchParts → Bool) (tells : Type 0) (root : RootId) (told : Option (Content C)) (old between new : Live W S)
    → (IsTold tells source old.slots between.slots root told → Passed source seating gives_such root told [] old between) → KeepsEach source old.slots between.slots → KeepsEach source between.slots new.slots
    → IsTold tells source old.slots new.slots root told → Failed source seating root told between new → Failed source seating root told old new
ending source seating gives_such tells root told old between new passed k l t failed =
    failed_on source seating root told gives_such old between new k (passed (told_early tells source root told old.slots between.slots new.slots k l t)) failed

module _ {W S C E : Type 0} (works : Works W C E) (source : Ghosts S C) (payload : Meanings C) (seating : Seating W C) (gives_such : BatchParts → Bool) (publishes : W → Type 0)
    (laws : WorkPlans payload.means works seating gives_such publishes) (tells : Type 0) (names : tells → Names works) where
  -- over a call that goes on to a step that fails
  advance_failed : (root : RootId) (told : Option (Content C)) (old new : RunState W S) (why : RunError E) → Seats' works source payload seating gives_such publishes laws tells names old.live → AdvanceFails works source payload old new why
      → IsTold tells source old.live.slots new.live.slots root told → Failed source seating root told old.live new.live
  advance_failed root told old new why h f t =
      let b = advance_breaks works source payload (Seats' works source payload seating gives_such publishes laws tells names) (Keeps' works source payload seating gives_such publishes laws tells names root told)
      (seating_on works source payload seating gives_such publishes laws tells names root told) old new why h f in
      let end : KeepsEach source b.between.slots new.live.slots → Failed source seating root told b.between new.live → Failed source seating root told old.live new.live =
      λ l failed. ending source seating gives_such tells root told old.live b.between new.live b.kept b.sources l t failed in
      ⊎_elim (λ a. end (ask_fails_keeps works source payload a.0 b.between new.live why a.1) (failed_idly source seating root told b.between new.live (ask_fails_asks works source payload a.0 b.between new.live why root a.1)))
      (λ r. ⊎_elim (λ l.
      let same : new.live.slots ≡ b.between.slots = ap (λ (z : Live W S). z.slots) l.3 in
      end (subst (λ (slots : List (Slot S)). KeepsEach source b.between.slots slots) (sym same) (each_same source b.between.slots))
      (fails_same works source payload.means seating gives_such publishes laws root told b.between new.live same))
      (λ v. let least = v.2 in end v.3 (visit_failed works source payload.means seating gives_such publishes laws root told (works.state_is v.1.work) v.0 v.1 b.between new.live least.there v.5)) r) b.breaks.way

  -- what it fetches is among what its root's seats had
  pub advance_spends_at_most : (old new : RunState W S) (why : RunError E) → Seats' works source payload seating gives_such publishes laws tells names old.live → AdvanceFails works source payload old new why
      → SpendsAtMost (IsTold tells source old.live.slots new.live.slots) source seating old.live new.live
  advance_spends_at_most old new why h f root told added t a =
      let p = advance_failed root told old new why h f t in
      rw (noted_is source root added p.noted old.live.slots new.live.slots p.journal a) p.spent

  -- and no sure source fails whose content has all of them
  pub failed_stands : (old new : RunState W S) (why : RunError E) → Seats' works source payload seating gives_such publishes laws tells names old.live → AdvanceFails works source payload old new why → SurelyStands source seating old.live new.live.slots
  failed_stands old new why h f root before after content there now sure is all =
      (advance_failed root None old new why h f tt).stands before after content there now sure is (none_lacking content (targets_of (seats seating root None old.live.items)) all)

-- where nothing is asked, nothing is fetched
pub same_spends_at_most : {W S C : Type 0} (over : RootId → Option (Content C) → Type 0) (source : Ghosts S C) (seating : Seating W C) (live : Live W S) → SpendsAtMost over source seating live live
same_spends_at_most over source seating live root told added o a =
    rw (noted_is source root added [] live.slots live.slots (λ before after there now. (at_same source live.slots root before after there now).journal) a) (spends_none (targets_of (seats seating root told live.items)))
