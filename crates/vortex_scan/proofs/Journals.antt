-- What steps add to the journals of sources, and where sure sources stand.
use Rattle.std.proofs.Common.{◌≡◌, ◌≢◌, ℕ, zero, suc, List, [], ◌∷◌, ◌++◌, refl, sym, ◌∙◌, ap, subst, Bool, true, false, cond, eqb, ◌&&◌, ◌||◌, Option, Some, Result, Ok, Err, arith, ◌⊎◌, ⊎_elim, inl, inr, append-nil, is_some}
use Rattle.std.specs.Prelude.{slice_get}
use Rattle.std.specs.List.{list_any, remove}
use Rattle.std.proofs.Math.ListN.{set}
use Rattle.std.proofs.lemmas.Bool.{cases_order, eqb-true}
use Rattle.std.proofs.lemmas.List.Folds.{list_any-append}
use Rattle.vortex_io.specs.Source.{Content, grown, is_outside, submissions}
use Rattle.vortex_io.specs.declared.ids.IoOwnerId.{IoOwnerId}
use Rattle.vortex_io.specs.declared.payload.Payload.{Ghosts as Meanings}
use Rattle.vortex_io.specs.declared.request.Completion.{Completion}
use Rattle.vortex_io.specs.declared.request.IoError.{IoError}
use Rattle.vortex_io.specs.declared.request.IoRequest.{IoRequest}
use Rattle.vortex_io.specs.declared.request.JournalEntry.{JournalEntry}
use Rattle.vortex_io.specs.declared.request.JournalEntry.TheVariants.{Waited}
use Rattle.vortex_io.specs.declared.source.IoSource.{Ghosts}
use Rattle.vortex_scan_types.specs.declared.place.RootId.{RootId}
use Rattle.vortex_scan.specs.declared.errors.RunError.{RunError}
use Rattle.vortex_scan.specs.declared.errors.Visited.{Visited}
use Rattle.vortex_scan.specs.declared.item.Item.{Item}
use Rattle.vortex_scan.specs.declared.item.Slot.{Slot}
use Rattle.vortex_scan.specs.declared.state.Output.{Output}
use Rattle.vortex_scan.specs.declared.state.Output.TheVariants as output
use Rattle.vortex_scan.specs.declared.state.State.{State}
use Rattle.vortex_scan.specs.declared.state.State.TheVariants as state
use Rattle.vortex_scan.specs.declared.worker.Worker.{Ghosts as Works}
use Rattle.vortex_scan.specs.Asking.{AskingFails, AsksLive, AsksOnce, is_live, root_at}
use Rattle.vortex_scan.specs.Fails.{AskFails, IsGiven, PollMisses, PollRefused, WaitFails, WaitMisses, WaitRefused}
use Rattle.vortex_scan.specs.RunState.{Live, has_root, is_of_root}
use Rattle.vortex_scan.specs.Sources.{Clears, Keeps, KeepsEach, Polls, Releases, Submits, Waits}
use Rattle.vortex_scan.specs.Steps.{Asks, ClearsLast, Follows, Retires, Settles, WaitsFor, published}
use Rattle.vortex_scan.proofs.Keeping.{asks_once_keeps, slot_after, slots_at}
use Rattle.vortex_scan.proofs.Kept.{each_called, grown_none, grown_twice}
use Rattle.vortex_scan.proofs.Rooted.{eqb_same}

-- a source notes these entries, and stands, where it is sure, unless a batch asks for what its content lacks
pub record Asked {S C : Type 0} (source : Ghosts S C) (noted : List JournalEntry) (batch : List IoRequest) (old new : S) : Type 0 where
  pub journal : source.journal new ≡ grown (source.journal old) noted
  pub stands : (content : Content C) → source.sure old ≡ true → source.content old ≡ Some content → list_any (is_outside content) batch ≡ false → source.faults new ≡ source.faults old

-- the same of a root's source
abbrev pub AskedAt : {S C : Type 0} → Ghosts S C → RootId → List JournalEntry → List IoRequest → List (Slot S) → List (Slot S) → Type 0
AskedAt {S} source root noted batch old new = (before after : Slot S) → slice_get old root.0 ≡ Some before → slice_get new root.0 ≡ Some after → Asked source noted batch before.source after.source

-- a list with one element changed, at any place
set_where : {A : Type 0} (xs : List A) (i j : ℕ) (x y before after : A) → slice_get xs i ≡ Some x → slice_get xs j ≡ Some before → slice_get (set xs i y) j ≡ Some after
    → ((i ≡ j) × (before ≡ x) × (after ≡ y)) ⊎ ((i ≢ j) × (after ≡ before))
set_where [] i j x y before after there was now = absurd (cc)
set_where (z ∷ zs) zero zero x y before after there was now = inl (refl, (cc), (cc))
set_where (z ∷ zs) zero (suc j) x y before after there was now = inr ((λ e. absurd (cc)), (cc))
set_where (z ∷ zs) (suc i) zero x y before after there was now = inr ((λ e. absurd (cc)), (cc))
set_where (z ∷ zs) (suc i) (suc j) x y before after there was now =
    ⊎_elim (λ h. inl (ap (λ n. suc n) h.0, h.1, h.2)) (λ h. inr ((λ e. h.0 (let same : i ≡ j = cc in same)), h.1)) (set_where zs i j x y before after there was now)

none_append : {A : Type 0} (p : A → Bool) (xs ys : List A) → list_any p (xs ++ ys) ≡ false → (list_any p xs ≡ false) × (list_any p ys ≡ false)
none_append p xs ys e =
    let h = sym (list_any-append p xs ys) ∙ e in
    elim (list_any p xs) as (λ b. (b || list_any p ys) ≡ false → (b ≡ false) × (list_any p ys ≡ false)) [ true ↦ λ t. absurd (cc) | false ↦ λ t. (refl, t) ] h

module _ {S C : Type 0} (source : Ghosts S C) where
  asked_same : (it : S) → Asked source [] [] it it
  asked_same it = record { journal = grown_none (source.journal it); stands = λ content sure told none. refl }

  asked_polls : (payload : Meanings C) (answer : Result (Option (Completion C)) IoError) (old new : S) → Polls source payload answer old new → Asked source [] [] old new
  asked_polls payload answer old new p = record { journal = p.journal ∙ grown_none (source.journal old); stands = λ content sure told none. p.surely sure (ap is_some told) }

  -- what a wait notes
  abbrev waited : Result (Completion C) IoError → List JournalEntry
  waited (Ok completion) = Waited ∷ []
  waited (Err cause) = []

  asked_waits : (payload : Meanings C) (answer : Result (Completion C) IoError) (old new : S) → Waits source payload answer old new → Asked source (waited answer) [] old new
  asked_waits payload (Ok completion) old new w = record { journal = w.journal; stands = λ content sure told none. w.surely sure (ap is_some told) }
  asked_waits payload (Err cause) old new w = record { journal = w.journal ∙ grown_none (source.journal old); stands = λ content sure told none. w.surely sure (ap is_some told) }

  -- what a batch that is taken notes
  abbrev pub noted_of : IoOwnerId → List IoRequest → Result (Unit {0}) IoError → List JournalEntry
  noted_of owner batch (Ok it) = submissions owner batch
  noted_of owner batch (Err cause) = []

  stands_by : (owner : IoOwnerId) (batch : List IoRequest) (answer : Result (Unit {0}) IoError) (old new : S) → Submits source owner batch answer old new
      → (content : Content C) → source.sure old ≡ true → source.content old ≡ Some content → list_any (is_outside content) batch ≡ false → source.faults new ≡ source.faults old
  stands_by owner batch answer old new s content sure told none =
      let less = s.keeps.faults in
      ⊎_elim (λ same. sym same)
      (λ r. ⊎_elim (λ more. absurd (let is = s.surely sure content told more in cc)) (λ fewer. absurd (omega (arith, less, fewer))) r) (cases_order (source.faults old) (source.faults new))

  pub asked_submits : (owner : IoOwnerId) (batch : List IoRequest) (answer : Result (Unit {0}) IoError) (old new : S) → Submits source owner batch answer old new → Asked source (noted_of owner batch answer) batch old new
  asked_submits owner batch (Ok it) old new s = record { journal = s.journal; stands = stands_by owner batch (Ok it) old new s }
  asked_submits owner batch (Err cause) old new s = record { journal = s.journal ∙ grown_none (source.journal old); stands = stands_by owner batch (Err cause) old new s }

  pub asked_clears : (old new : S) → Clears source old new → Asked source [] [] old new
  asked_clears old new r = record { journal = r.journal ∙ grown_none (source.journal old); stands = λ content sure told none. r.surely sure (ap is_some told) }

  asked_leaves : (owner : IoOwnerId) (others : Bool) (old between new : S) → Releases source owner old between → ClearsLast source others between new → Asked source [] [] old new
  asked_leaves owner true old between new r l = rw l (record { journal = r.journal ∙ grown_none (source.journal old); stands = λ content sure told none. r.surely sure (ap is_some told) })
  asked_leaves owner false old between new r l = record {
    journal = l.journal ∙ r.journal ∙ grown_none (source.journal old);
    stands = λ content sure told none. l.surely (r.keeps.sure ∙ sure) (ap is_some (r.keeps.content ∙ told)) ∙ r.surely sure (ap is_some told);
  }

  asked_on : (a b d : S) (f h : List JournalEntry) (p q : List IoRequest) → Keeps source a b → Asked source f p a b → Asked source h q b d → Asked source (f ++ h) (p ++ q) a d
  asked_on a b d f h p q k first then = record {
    journal = then.journal ∙ ap (λ t. grown t h) first.journal ∙ grown_twice (source.journal a) f h;
    stands = λ content sure told none.
        let n = none_append (is_outside content) p q none in
        then.stands content (k.sure ∙ sure) (k.content ∙ told) n.1 ∙ first.stands content sure told n.0;
  }

  -- Of a root's source.

  pub at_same : (slots : List (Slot S)) (root : RootId) → AskedAt source root [] [] slots slots
  at_same slots root before after there now = let same : after ≡ before = cc in rw same (asked_same before.source)

  pub at_on : (a b d : List (Slot S)) (root : RootId) (f h : List JournalEntry) (p q : List IoRequest) → KeepsEach source a b → AskedAt source root f p a b → AskedAt source root h q b d → AskedAt source root (f ++ h) (p ++ q) a d
  at_on a b d root f h p q k first then before after there now =
      let mid = slot_after source a b root.0 before k there in
      let one = slots_at source a b root.0 before mid.0 k there mid.1 in
      asked_on before.source mid.0.source after.source f h p q one.keeps (first before mid.0 there mid.1) (then mid.0 after mid.1 now)

  pub at_set : (slots : List (Slot S)) (i : ℕ) (slot slot' : Slot S) (noted : List JournalEntry) (batch : List IoRequest) (root : RootId) → slice_get slots i ≡ Some slot → Asked source noted batch slot.source slot'.source
      → AskedAt source root (cond (eqb i root.0) noted []) (cond (eqb i root.0) batch []) slots (set slots i slot')
  at_set slots i slot slot' noted batch root there asked before after was now =
      let w = set_where slots i root.0 slot slot' before after there was now in
      elim (eqb i root.0) as (λ b. eqb i root.0 ≡ b → Asked source (cond b noted []) (cond b batch []) before.source after.source) [
        | true ↦ λ e. ⊎_elim (λ h. rw (h.1, h.2) asked) (λ h. absurd (h.0 (eqb-true _ _ e))) w
        | false ↦ λ e. ⊎_elim (λ h. absurd (let is : eqb i i ≡ true = eqb_same i in let at : eqb i i ≡ false = subst (λ n. eqb i n ≡ false) (sym h.0) e in cc)) (λ h. rw h.1 (asked_same before.source)) w
      ] refl

  pub at_set_none : (slots : List (Slot S)) (i : ℕ) (slot slot' : Slot S) (root : RootId) → slice_get slots i ≡ Some slot → Asked source [] [] slot.source slot'.source → AskedAt source root [] [] slots (set slots i slot')
  at_set_none slots i slot slot' root there asked before after was now =
      ⊎_elim (λ h. rw (h.1, h.2) asked) (λ h. rw h.1 (asked_same before.source)) (set_where slots i root.0 slot slot' before after there was now)

module _ {W S C : Type 0} (source : Ghosts S C) where
  pub retire_asks : (at : ℕ) (item : Item W) (old new : Live W S) (answer : Visited) (root : RootId) → Retires source at item old new answer → AskedAt source root [] [] old.slots new.slots
  retire_asks at item old new answer root r =
      let others = has_root item.root (remove old.items at) in
      subst (λ (slots : List (Slot S)). AskedAt source root [] [] old.slots slots) (sym (ap (λ (l : Live W S). l.slots) r.now))
      (at_set_none source old.slots item.root.0 r.slot (record { source = r.after; live = others && r.slot.live }) root r.there (asked_leaves source item.owner others r.slot.source r.released r.after r.releases r.clears))

  pub settle_asks : (shown : State) (at : ℕ) (item : Item W) (old new : Live W S) (answer : Visited) (root : RootId) → Settles source shown at item old new answer → AskedAt source root [] [] old.slots new.slots
  settle_asks state.Done at item old new answer root s = retire_asks at item old new answer root s
  settle_asks state.NeedsCompute at item old new answer root s = subst (λ (l : Live W S). AskedAt source root [] [] old.slots l.slots) (sym s.0) (at_same source old.slots root)
  settle_asks state.Waiting at item old new answer root s = subst (λ (l : Live W S). AskedAt source root [] [] old.slots l.slots) (sym s.1) (at_same source old.slots root)

  -- what an answer of an item asks of a root's source
  abbrev pub batch_at : RootId → Item W → Output W → List IoRequest
  batch_at root item output.Done = []
  batch_at root item output.Continue = []
  batch_at root item (output.NeedsIO batch) = cond (is_of_root root item) batch []
  batch_at root item (output.Child scope work) = []
  batch_at root item (output.Batch array) = []

  abbrev pub noted_at : RootId → Item W → Output W → List JournalEntry
  noted_at root item output.Done = []
  noted_at root item output.Continue = []
  noted_at root item (output.NeedsIO batch) = cond (is_of_root root item) (submissions item.owner batch) []
  noted_at root item (output.Child scope work) = []
  noted_at root item (output.Batch array) = []

  pub follow_asks : {E : Type 0} (works : Works W C E) (out : Output W) (at : ℕ) (item : Item W) (old new : Live W S) (answer : Visited) (root : RootId) → Follows works source out at item old new answer → AskedAt source root (noted_at root item out) (batch_at root item out) old.slots new.slots
  follow_asks works output.Done at item old new answer root h = retire_asks at item old new answer root h
  follow_asks works output.Continue at item old new answer root h = subst (λ (l : Live W S). AskedAt source root [] [] old.slots l.slots) (sym h.0) (at_same source old.slots root)
  follow_asks works (output.NeedsIO batch) at item old new answer root h =
      let p = h.1 in
      let noted = noted_at root item (output.NeedsIO batch) in
      let asked = batch_at root item (output.NeedsIO batch) in
      let slots = ap (λ (l : Live W S). l.slots) p.now in
      let keeps : KeepsEach source old.slots h.0.slots = subst (λ (s : List (Slot S)). KeepsEach source old.slots s) (sym slots) (each_called source old.slots item.root.0 p.slot p.after p.there p.submits.keeps) in
      let first : AskedAt source root noted asked old.slots h.0.slots =
      subst (λ (s : List (Slot S)). AskedAt source root noted asked old.slots s) (sym slots)
      (at_set source old.slots item.root.0 p.slot (record p.slot { source = p.after }) (submissions item.owner batch) batch root p.there (asked_submits source item.owner batch (Ok tt) p.slot.source p.after p.submits)) in
      let then = settle_asks (works.state_is item.work) at (published item batch) h.0 new answer root h.2 in
      subst (λ q. AskedAt source root noted q old.slots new.slots) (append-nil asked)
      (subst (λ n. AskedAt source root n (asked ++ []) old.slots new.slots) (append-nil noted) (at_on source old.slots h.0.slots new.slots root noted [] asked [] keeps first then))
  follow_asks works (output.Child scope work) at item old new answer root h = let p = h.0 in subst (λ (l : Live W S). AskedAt source root [] [] old.slots l.slots) (sym p.now) (at_same source old.slots root)
  follow_asks works (output.Batch array) at item old new answer root h = subst (λ (l : Live W S). AskedAt source root [] [] old.slots l.slots) (sym h.1) (at_same source old.slots root)

  -- a batch that was given in vain
  pub given_asks : (item : Item W) (batch : List IoRequest) (old new : List (Slot S)) (root : RootId) (g : IsGiven source item batch old new)
      → AskedAt source root (cond (is_of_root root item) (noted_of source item.owner batch g.answer) []) (cond (is_of_root root item) batch []) old new
  given_asks item batch old new root g =
      let noted = cond (is_of_root root item) (noted_of source item.owner batch g.answer) [] in
      let asked = cond (is_of_root root item) batch [] in
      subst (λ (s : List (Slot S)). AskedAt source root noted asked old s) (sym g.now)
      (at_set source old item.root.0 g.slot (record g.slot { source = g.after }) (noted_of source item.owner batch g.answer) batch root g.there (asked_submits source item.owner batch g.answer g.slot.source g.after g.submits))

module _ {W S C E : Type 0} (works : Works W C E) (source : Ghosts S C) (payload : Meanings C) where
  pub ask_asks : (asker : RootId) (answer : Option (Completion C)) (old new : Live W S) (root : RootId) → Asks works source payload asker answer old new → AskedAt source root [] [] old.slots new.slots
  ask_asks asker answer old new root a =
      subst (λ (s : List (Slot S)). AskedAt source root [] [] old.slots s) (sym (ap (λ (l : Live W S). l.slots) a.now))
      (at_set_none source old.slots asker.0 a.slot (record a.slot { source = a.after }) root a.there (asked_polls source payload (Ok answer) a.slot.source a.after a.polls))

  live_asks : (number : ℕ) (live : Bool) (old new : Live W S) (came : Bool) (root : RootId) → AsksLive works source payload number live old new came → AskedAt source root [] [] old.slots new.slots
  live_asks number true old new came root a = ask_asks (root_at number) a.0 old new root a.1
  live_asks number false old new came root a = subst (λ (l : Live W S). AskedAt source root [] [] old.slots l.slots) (sym a.0) (at_same source old.slots root)

  pub once_asks : (roots : ℕ) (old new : Live W S) (came : Bool) (root : RootId) → AsksOnce works source payload roots old new came → AskedAt source root [] [] old.slots new.slots
  once_asks zero old new came root a = subst (λ (l : Live W S). AskedAt source root [] [] old.slots l.slots) (sym a.0) (at_same source old.slots root)
  once_asks (suc number) old new came root a =
      at_on source old.slots a.0.slots new.slots root [] [] [] [] (asks_once_keeps works source payload number old a.0 a.1 a.3) (once_asks number old a.0 a.1 root a.3)
      (live_asks number (is_live (slice_get a.0.slots number)) a.0 new a.2 root a.4)

  refused_asks : (cause : IoError) (asker : RootId) (old new : Live W S) (root : RootId) → PollRefused source payload cause asker old new → AskedAt source root [] [] old.slots new.slots
  refused_asks cause asker old new root a =
      subst (λ (s : List (Slot S)). AskedAt source root [] [] old.slots s) (sym a.now)
      (at_set_none source old.slots asker.0 a.slot (record a.slot { source = a.after }) root a.there (asked_polls source payload (Err cause) a.slot.source a.after a.polls))

  pub ask_fails_asks : (asker : RootId) (old new : Live W S) (why : RunError E) (root : RootId) → AskFails works source payload asker old new why → AskedAt source root [] [] old.slots new.slots
  ask_fails_asks asker old new why root f =
      ⊎_elim (λ m. refused_asks _ asker old new root m.1)
      (λ r. ⊎_elim (λ q. refused_asks _ asker old new root q.1)
      (λ (m : PollMisses works source payload asker old new why).
      subst (λ (s : List (Slot S)). AskedAt source root [] [] old.slots s) (sym m.now)
      (at_set_none source old.slots asker.0 m.slot (record m.slot { source = m.after }) root m.there (asked_polls source payload (Ok (Some m.completion)) m.slot.source m.after m.polls))) r) f

  pub asking_asks : (old new : Live W S) (why : RunError E) (root : RootId) → AskingFails works source payload old new why → AskedAt source root [] [] old.slots new.slots
  asking_asks old new why root f =
      at_on source old.slots f.between.slots new.slots root [] [] [] [] (asks_once_keeps works source payload f.number old f.between f.came f.asked) (once_asks f.number old f.between f.came root f.asked)
      (ask_fails_asks (root_at f.number) f.between new why root f.fails)

  -- what a wait notes at a root's source
  abbrev pub waited_at : RootId → RootId → List JournalEntry
  waited_at asker root = cond (eqb asker.0 root.0) (Waited ∷ []) []

  abbrev no_requests : List IoRequest
  no_requests = []

  cond_none : (b : Bool) → cond b [] [] ≡ no_requests
  cond_none true = refl
  cond_none false = refl

  pub wait_asks : (asker : RootId) (old new : Live W S) (root : RootId) → WaitsFor works source payload asker old new → AskedAt source root (waited_at asker root) [] old.slots new.slots
  wait_asks asker old new root a =
      subst (λ q. AskedAt source root (waited_at asker root) q old.slots new.slots) (cond_none (eqb asker.0 root.0))
      (subst (λ (s : List (Slot S)). AskedAt source root (waited_at asker root) (cond (eqb asker.0 root.0) [] []) old.slots s) (sym (ap (λ (l : Live W S). l.slots) a.now))
      (at_set source old.slots asker.0 a.slot (record a.slot { source = a.after }) (Waited ∷ []) [] root a.there (asked_waits source payload (Ok a.completion) a.slot.source a.after a.waits)))

  wait_refused_asks : (cause : IoError) (asker : RootId) (old new : Live W S) (root : RootId) → WaitRefused source payload cause asker old new → AskedAt source root [] [] old.slots new.slots
  wait_refused_asks cause asker old new root a =
      subst (λ (s : List (Slot S)). AskedAt source root [] [] old.slots s) (sym a.now)
      (at_set_none source old.slots asker.0 a.slot (record a.slot { source = a.after }) root a.there (asked_waits source payload (Err cause) a.slot.source a.after a.waits))

  pub wait_fails_asks : (asker : RootId) (old new : Live W S) (why : RunError E) (root : RootId) → WaitFails works source payload asker old new why → AskedAt source root [] [] old.slots new.slots ⊎ AskedAt source root (waited_at asker root) [] old.slots new.slots
  wait_fails_asks asker old new why root f =
      ⊎_elim (λ m. inl (wait_refused_asks _ asker old new root m.1))
      (λ r. ⊎_elim (λ q. inl (wait_refused_asks _ asker old new root q.1))
      (λ (m : WaitMisses works source payload asker old new why).
      inr (subst (λ q. AskedAt source root (waited_at asker root) q old.slots new.slots) (cond_none (eqb asker.0 root.0))
      (subst (λ (s : List (Slot S)). AskedAt source root (waited_at asker root) (cond (eqb asker.0 root.0) [] []) old.slots s) (sym m.now)
      (at_set source old.slots asker.0 m.slot (record m.slot { source = m.after }) (Waited ∷ []) [] root m.there (asked_waits source payload (Ok m.completion) m.slot.source m.after m.waits))))) r) f
