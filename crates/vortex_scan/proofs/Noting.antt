-- Which calls add to journals: waits are noted by one call alone.
use Rattle.std.proofs.Common.{◌≡◌, ◌≢◌, ℕ, zero, suc, ◌+◌, List, [], ◌∷◌, ◌++◌, refl, sym, ◌∙◌, ap, subst, Bool, true, false, cond, eqb, ◌||◌, Option, None, Some, Ok, Err, Result, inl, inr, ◌⊎◌, ⊎_elim}
use Rattle.std.specs.Prelude.{slice_get}
use Rattle.std.specs.List.{list_any}
use Rattle.std.proofs.lemmas.Bool.{eqb-true}
use Rattle.std.proofs.lemmas.List.Folds.{list_any-append}
use Rattle.vortex_io.specs.Source.{submissions}
use Rattle.vortex_io.specs.declared.ids.IoOwnerId.{IoOwnerId}
use Rattle.vortex_io.specs.declared.payload.Payload.{Ghosts as Meanings}
use Rattle.vortex_io.specs.declared.request.IoError.{IoError}
use Rattle.vortex_io.specs.declared.request.IoRequest.{IoRequest}
use Rattle.vortex_io.specs.declared.request.JournalEntry.{JournalEntry}
use Rattle.vortex_io.specs.declared.request.JournalEntry.TheVariants.{Waited}
use Rattle.vortex_io.specs.declared.source.IoSource.{Ghosts}
use Rattle.vortex_scan_types.specs.declared.batch.Batch.{Batch}
use Rattle.vortex_scan_types.specs.declared.place.RootId.{RootId}
use Rattle.vortex_scan.specs.declared.errors.Progress.{Progress}
use Rattle.vortex_scan.specs.declared.errors.RunError.{RunError}
use Rattle.vortex_scan.specs.declared.errors.Visited.{Visited}
use Rattle.vortex_scan.specs.declared.item.Item.{Item}
use Rattle.vortex_scan.specs.declared.item.Slot.{Slot}
use Rattle.vortex_scan.specs.declared.state.Output.{Output}
use Rattle.vortex_scan.specs.declared.state.Output.TheVariants as output
use Rattle.vortex_scan.specs.declared.state.State.{State}
use Rattle.vortex_scan.specs.declared.state.State.TheVariants as state
use Rattle.vortex_scan.specs.declared.worker.Worker.{Ghosts as Works}
use Rattle.vortex_scan.specs.Asking.{AskingFails, AsksOnce}
use Rattle.vortex_scan.specs.Fails.{FollowGives, VisitGives, WaitFails}
use Rattle.vortex_scan.specs.Going.{AdvanceFails, Advances}
use Rattle.vortex_scan.specs.RunState.{Live, RunState, is_of_root, put}
use Rattle.vortex_scan.specs.Seats.{Adds, AddsNoWait, AddsNothing, FaultsNoSure, WaitsOnce, is_wait}
use Rattle.vortex_scan.specs.Steps.{CancelsLive, Follows, Visits, WaitsFor, computed}
use Rattle.vortex_scan.proofs.Chains.{Carried, advance_breaks, carry_advance}
use Rattle.vortex_scan.proofs.Journals.{AskedAt, ask_asks, ask_fails_asks, asked_clears, asking_asks, at_on, at_same, at_set_none, batch_at, follow_asks, given_asks, noted_at, noted_of, once_asks, settle_asks, wait_asks, wait_fails_asks, waited_at}
use Rattle.vortex_scan.proofs.WholeSeats.{noted_is}

-- What was asked of a root's source adds what was noted.

module _ {S C : Type 0} (source : Ghosts S C) where
  adds_noted : (root : RootId) (noted added : List JournalEntry) (batch : List IoRequest) (old new : List (Slot S)) → AskedAt source root noted batch old new → Adds source root added old new → added ≡ noted
  adds_noted root noted added batch old new asked a = noted_is source root added noted old new (λ before after there now. (asked before after there now).journal) a

  pub adds_nothing : (old new : List (Slot S)) → ((root : RootId) → AskedAt source root [] [] old new) → AddsNothing source old new
  adds_nothing old new asked root added a = adds_noted root [] added [] old new (asked root) a

  pub faults_no_sure : (old new : List (Slot S)) (noted : RootId → List JournalEntry) → ((root : RootId) → AskedAt source root (noted root) [] old new) → FaultsNoSure source old new
  faults_no_sure old new noted asked root before after content there now sure is = (asked root before after there now).stands content sure is refl

  pub same_adds_no_wait : (slots : List (Slot S)) → AddsNoWait source slots slots
  same_adds_no_wait slots root added adds = rw (adds_noted root [] added [] slots slots (at_same source slots root) adds) refl

  pub same_adds_nothing : (slots : List (Slot S)) → AddsNothing source slots slots
  same_adds_nothing slots = adds_nothing slots slots (λ root. at_same source slots root)

  pub same_faults_no_sure : (slots : List (Slot S)) → FaultsNoSure source slots slots
  same_faults_no_sure slots = faults_no_sure slots slots (λ root. []) (λ root. at_same source slots root)

no_waits : (owner : IoOwnerId) (batch : List IoRequest) → list_any is_wait (submissions owner batch) ≡ false
no_waits owner [] = refl
no_waits owner (request ∷ batch) = no_waits owner batch

no_waits_at : (b : Bool) (owner : IoOwnerId) (batch : List IoRequest) → list_any is_wait (cond b (submissions owner batch) []) ≡ false
no_waits_at true owner batch = no_waits owner batch
no_waits_at false owner batch = refl

no_waits_of : {S C : Type 0} (source : Ghosts S C) (b : Bool) (owner : IoOwnerId) (batch : List IoRequest) (answer : Result (Unit {0}) IoError) → list_any is_wait (cond b (noted_of source owner batch answer) []) ≡ false
no_waits_of source true owner batch (Ok it) = no_waits owner batch
no_waits_of source true owner batch (Err cause) = refl
no_waits_of source false owner batch answer = refl

-- a root's source was asked, and noted no wait
record Notes {W S C : Type 0} (source : Ghosts S C) (root : RootId) (old new : Live W S) : Type 0 where
  noted : List JournalEntry
  batch : List IoRequest
  asked : AskedAt source root noted batch old.slots new.slots
  none : list_any is_wait noted ≡ false

module _ {W S C E : Type 0} (works : Works W C E) (source : Ghosts S C) (payload : Meanings C) (root : RootId) where
  notes_none : (old new : Live W S) → AskedAt source root [] [] old.slots new.slots → Notes source root old new
  notes_none old new asked = record { noted = []; batch = []; asked = asked; none = refl }

  notes_same : (old new : Live W S) → new.slots ≡ old.slots → Notes source root old new
  notes_same old new same = notes_none old new (subst (λ (slots : List (Slot S)). AskedAt source root [] [] old.slots slots) (sym same) (at_same source old.slots root))

  follow_notes : (out : Output W) (at : ℕ) (item : Item W) (old new : Live W S) (answer : Visited) → Follows works source out at item old new answer → Notes source root old new
  follow_notes output.Done at item old new answer h = notes_none old new (follow_asks source works output.Done at item old new answer root h)
  follow_notes output.Continue at item old new answer h = notes_none old new (follow_asks source works output.Continue at item old new answer root h)
  follow_notes (output.NeedsIO batch) at item old new answer h = record {
    noted = noted_at source root item (output.NeedsIO batch);
    batch = batch_at source root item (output.NeedsIO batch);
    asked = follow_asks source works (output.NeedsIO batch) at item old new answer root h;
    none = no_waits_at (is_of_root root item) item.owner batch;
  }
  follow_notes (output.Child scope work) at item old new answer h = notes_none old new (follow_asks source works (output.Child scope work) at item old new answer root h)
  follow_notes (output.Batch array) at item old new answer h = notes_none old new (follow_asks source works (output.Batch array) at item old new answer root h)

  visit_notes : (shown : State) (at : ℕ) (item : Item W) (old new : Live W S) (answer : Visited) → Visits works source shown at item old new answer → Notes source root old new
  visit_notes state.Done at item old new answer h = notes_none old new (settle_asks source state.Done at item old new answer root h)
  visit_notes state.Waiting at item old new answer h = notes_none old new (settle_asks source state.Waiting at item old new answer root h)
  visit_notes state.NeedsCompute at item old new answer h =
      let n = follow_notes h.0 at (computed item h.1) (put at (computed item h.1) old) new answer h.3 in
      record { noted = n.noted; batch = n.batch; asked = n.asked; none = n.none }

  fail_notes : (answer : Result (Output W) E) (item : Item W) (old new : Live W S) → FollowGives source answer item old.slots new.slots → Notes source root old new
  fail_notes (Err failure) item old new g = notes_same old new g
  fail_notes (Ok output.Done) item old new g = notes_same old new g
  fail_notes (Ok output.Continue) item old new g = notes_same old new g
  fail_notes (Ok (output.NeedsIO batch)) item old new g =
      ⊎_elim (λ same. notes_same old new same)
      (λ given. record {
        noted = cond (is_of_root root item) (noted_of source item.owner batch given.answer) [];
        batch = cond (is_of_root root item) batch [];
        asked = given_asks source item batch old.slots new.slots root given;
        none = no_waits_of source (is_of_root root item) item.owner batch given.answer;
      }) g
  fail_notes (Ok (output.Child scope work)) item old new g = notes_same old new g
  fail_notes (Ok (output.Batch array)) item old new g = notes_same old new g

  visit_fail_notes : (shown : State) (item : Item W) (old new : Live W S) → VisitGives works source shown item old.slots new.slots → Notes source root old new
  visit_fail_notes state.Done item old new g = notes_same old new g
  visit_fail_notes state.Waiting item old new g = notes_same old new g
  visit_fail_notes state.NeedsCompute item old new g = fail_notes g.0 (computed item g.1) old new g.3

  abbrev Any' : Live W S → Type 0
  Any' live = Unit {0}

  abbrev Notes' : List Batch → ℕ → Live W S → ℕ → Live W S → Type 0
  Notes' batches made old made' new = Notes source root old new

  noting : Carried works source payload Any' Notes'
  noting = record {
    same = λ made live. notes_same live live refl;
    on = λ batches m n o a b d k l first then. record {
      noted = first.noted ++ then.noted;
      batch = first.batch ++ then.batch;
      asked = at_on source a.slots b.slots d.slots root first.noted then.noted first.batch then.batch k first.asked then.asked;
      none = list_any-append is_wait first.noted then.noted ∙ ap (λ x. x || list_any is_wait then.noted) first.none ∙ then.none;
    };
    asks = λ asker answer made old new h a. (tt, notes_none old new (ask_asks works source payload asker answer old new root a));
    visits = λ made at item old new came h least v. (tt, visit_notes (works.state_is item.work) at item old new came v);
  }

  advance_notes : (old new : RunState W S) (answer : Progress) → Advances works source payload old new answer → Notes source root old.live new.live
  advance_notes old new answer a = (carry_advance works source payload Any' Notes' noting old new answer tt a).1

  advance_fail_notes : (old new : RunState W S) (why : RunError E) → AdvanceFails works source payload old new why → Notes source root old.live new.live
  advance_fail_notes old new why f =
      let b = advance_breaks works source payload Any' Notes' noting old new why tt f in
      let first : Notes source root old.live b.between = b.kept in
      let last : Notes source root b.between new.live =
      ⊎_elim (λ a. notes_none b.between new.live (ask_fails_asks works source payload a.0 b.between new.live why root a.1))
      (λ r. ⊎_elim (λ l. notes_same b.between new.live (ap (λ (z : Live W S). z.slots) l.3)) (λ v. visit_fail_notes (works.state_is v.1.work) v.1 b.between new.live v.5) r) b.breaks.way in
      record {
        noted = first.noted ++ last.noted;
        batch = first.batch ++ last.batch;
        asked = at_on source old.live.slots b.between.slots new.live.slots root first.noted last.noted first.batch last.batch b.sources first.asked last.asked;
        none = list_any-append is_wait first.noted last.noted ∙ ap (λ x. x || list_any is_wait last.noted) first.none ∙ last.none;
      }

module _ {W S C E : Type 0} (works : Works W C E) (source : Ghosts S C) (payload : Meanings C) where
  pub advance_adds_no_wait : (old new : RunState W S) (answer : Progress) → Advances works source payload old new answer → AddsNoWait source old.live.slots new.live.slots
  advance_adds_no_wait old new answer a root added adds =
      let n = advance_notes works source payload root old new answer a in
      rw (adds_noted source root n.noted added n.batch old.live.slots new.live.slots n.asked adds) n.none

  pub failed_adds_no_wait : (old new : RunState W S) (why : RunError E) → AdvanceFails works source payload old new why → AddsNoWait source old.live.slots new.live.slots
  failed_adds_no_wait old new why f root added adds =
      let n = advance_fail_notes works source payload root old new why f in
      rw (adds_noted source root n.noted added n.batch old.live.slots new.live.slots n.asked adds) n.none

  pub once_adds_nothing : (roots : ℕ) (old new : Live W S) (came : Bool) → AsksOnce works source payload roots old new came → AddsNothing source old.slots new.slots × FaultsNoSure source old.slots new.slots
  once_adds_nothing roots old new came a =
      (adds_nothing source old.slots new.slots (λ root. once_asks works source payload roots old new came root a), faults_no_sure source old.slots new.slots (λ root. []) (λ root. once_asks works source payload roots old new came root a))

  pub asking_adds_nothing : (old new : Live W S) (why : RunError E) → AskingFails works source payload old new why → AddsNothing source old.slots new.slots × FaultsNoSure source old.slots new.slots
  asking_adds_nothing old new why f =
      (adds_nothing source old.slots new.slots (λ root. asking_asks works source payload old new why root f), faults_no_sure source old.slots new.slots (λ root. []) (λ root. asking_asks works source payload old new why root f))

  -- a wait
  once_at : (asker : RootId) (added : List JournalEntry) → added ≡ waited_at works source payload asker asker → (added ≡ []) ⊎ (added ≡ Waited ∷ [])
  once_at asker added e =
      elim (eqb asker.0 asker.0) as (λ b. added ≡ cond b (Waited ∷ []) [] → (added ≡ []) ⊎ (added ≡ Waited ∷ [])) [ true ↦ λ h. inr h | false ↦ λ h. inl h ] e

  none_at : (asker other : RootId) (added : List JournalEntry) → other ≢ asker → added ≡ waited_at works source payload asker other → added ≡ []
  none_at asker other added differs e =
      elim (eqb asker.0 other.0) as (λ b. eqb asker.0 other.0 ≡ b → added ≡ cond b (Waited ∷ []) [] → added ≡ []) [
        | true ↦ λ is h. absurd (differs (let same : asker.0 ≡ other.0 = eqb-true _ _ is in let r : other ≡ asker = (λ i. record { 0 = sym same i }) in r))
        | false ↦ λ is h. h
      ] refl e

  pub wait_once : (asker : RootId) (old new : Live W S) → WaitsFor works source payload asker old new → WaitsOnce source old.slots new.slots × FaultsNoSure source old.slots new.slots
  wait_once asker old new a =
      let asked : (root : RootId) → AskedAt source root (waited_at works source payload asker root) [] old.slots new.slots = λ root. wait_asks works source payload asker old new root a in (
        record {
          root = asker;
          once = λ added adds. once_at asker added (adds_noted source asker (waited_at works source payload asker asker) added [] old.slots new.slots (asked asker) adds);
          others = λ other added differs adds. none_at asker other added differs (adds_noted source other (waited_at works source payload asker other) added [] old.slots new.slots (asked other) adds);
        },
        faults_no_sure source old.slots new.slots (λ root. waited_at works source payload asker root) asked,
      )

  pub wait_fails_once : (asker : RootId) (old new : Live W S) (why : RunError E) → WaitFails works source payload asker old new why → WaitsOnce source old.slots new.slots × FaultsNoSure source old.slots new.slots
  wait_fails_once asker old new why f =
      let asked : (root : RootId) → AskedAt source root [] [] old.slots new.slots ⊎ AskedAt source root (waited_at works source payload asker root) [] old.slots new.slots = λ root. wait_fails_asks works source payload asker old new why root f in (
        record {
          root = asker;
          once = λ added adds. ⊎_elim (λ n. inl (adds_noted source asker [] added [] old.slots new.slots n adds)) (λ w. once_at asker added (adds_noted source asker (waited_at works source payload asker asker) added [] old.slots new.slots w adds)) (asked asker);
          others = λ other added differs adds.
              ⊎_elim (λ n. adds_noted source other [] added [] old.slots new.slots n adds) (λ w. none_at asker other added differs (adds_noted source other (waited_at works source payload asker other) added [] old.slots new.slots w adds)) (asked other);
        },
        λ root before after content there now sure is. ⊎_elim (λ (n : AskedAt source root [] [] old.slots new.slots). (n before after there now).stands content sure is refl)
            (λ (w : AskedAt source root (waited_at works source payload asker root) [] old.slots new.slots). (w before after there now).stands content sure is refl) (asked root),
      )

-- a root that is cancelled
module _ {W S C : Type 0} (source : Ghosts S C) where
  cancel_asks : (gone : RootId) (found : Option (Slot S)) (old new : Live W S) (root : RootId) → slice_get old.slots gone.0 ≡ found → CancelsLive source gone found old new → AskedAt source root [] [] old.slots new.slots
  cancel_asks gone None old new root there c = subst (λ (l : Live W S). AskedAt source root [] [] old.slots l.slots) (sym c) (at_same source old.slots root)
  cancel_asks gone (Some slot) old new root there c =
      elim slot.live as (λ b. slot.live ≡ b → AskedAt source root [] [] old.slots new.slots) [
        | true ↦ λ e. let did = c.0 e in subst (λ (l : Live W S). AskedAt source root [] [] old.slots l.slots) (sym did.now)
            (at_set_none source old.slots gone.0 slot (record { source = did.after; live = false }) root there (asked_clears source slot.source did.after did.clears))
        | false ↦ λ e. subst (λ (l : Live W S). AskedAt source root [] [] old.slots l.slots) (sym (c.1 e)) (at_same source old.slots root)
      ] refl

  pub cancel_adds_nothing : (gone : RootId) (found : Option (Slot S)) (old new : Live W S) → slice_get old.slots gone.0 ≡ found → CancelsLive source gone found old new → AddsNothing source old.slots new.slots × FaultsNoSure source old.slots new.slots
  cancel_adds_nothing gone found old new there c =
      (adds_nothing source old.slots new.slots (λ root. cancel_asks gone found old new root there c), faults_no_sure source old.slots new.slots (λ root. []) (λ root. cancel_asks gone found old new root there c))

-- a root that joins
module _ {S C : Type 0} (source : Ghosts S C) where
  joined_same : (slots : List (Slot S)) (slot : Slot S) (root : ℕ) (before after : Slot S) → slice_get slots root ≡ Some before → slice_get (slots ++ slot ∷ []) root ≡ Some after → after ≡ before
  joined_same [] slot root before after there now = absurd (cc)
  joined_same (s ∷ ss) slot zero before after there now = cc
  joined_same (s ∷ ss) slot (suc root) before after there now = joined_same ss slot root before after there now

  admit_asks : (slots : List (Slot S)) (slot : Slot S) (root : RootId) → AskedAt source root [] [] slots (slots ++ slot ∷ [])
  admit_asks slots slot root before after there now = rw (joined_same slots slot root.0 before after there now) (at_same source (before ∷ []) (record { 0 = 0 }) before before refl refl)

  pub admit_adds_nothing : (slots : List (Slot S)) (slot : Slot S) → AddsNothing source slots (slots ++ slot ∷ []) × FaultsNoSure source slots (slots ++ slot ∷ [])
  admit_adds_nothing slots slot =
      (adds_nothing source slots (slots ++ slot ∷ []) (λ root. admit_asks slots slot root), faults_no_sure source slots (slots ++ slot ∷ []) (λ root. []) (λ root. admit_asks slots slot root))
