-- Runs that are taken to their end, call by call.
use Rattle.std.proofs.Common.{◌≡◌, ℕ, zero, suc, ◌+◌, ◌<◌, ◌≤◌, List, [], ◌∷◌, ◌++◌, refl, sym, ◌∙◌, ap, subst, Bool, true, false, Some, ◌⊎◌, ⊎_elim, arith, lit<, length}
use Rattle.std.specs.Prelude.{slice_get, count_by}
use Rattle.std.proofs.lemmas.List.{append-nil, map-append}
use Rattle.vortex_buffer.specs.Counts.{Rose}
use Rattle.vortex_io.specs.Source.{Content}
use Rattle.vortex_io.specs.declared.payload.Payload.{Ghosts as Meanings}
use Rattle.vortex_io.specs.declared.source.IoSource.{Ghosts}
use Rattle.vortex_scan_types.specs.declared.batch.Batch.{Batch}
use Rattle.vortex_scan_types.specs.declared.batch.WorkScope.{WorkScope}
use Rattle.vortex_scan_types.specs.declared.place.RootId.{RootId}
use Rattle.vortex_scan.specs.Bag.{AreHonest, KeepsBag, Owing, bag, batches_of, entries_of, entry_of}
use Rattle.vortex_scan.specs.Going.{Advances, AsksIfDue, Ends, GoesOn, Turns}
use Rattle.vortex_scan.specs.InOrder.{FailsAsPermitted, IsHonestAt, IsInOrder as RefusesOnly, IsOrderly, IsPermitted, PermitsNoMore, StaysOrderly, WorksOff, work_left}
use Rattle.vortex_scan.specs.Owed.{Entry}
use Rattle.vortex_scan.specs.RunState.{Live, RunState, new_run}
use Rattle.vortex_scan.specs.Steps.{admitted, root_item}
use Rattle.vortex_scan.specs.Sources.{KeepsEach}
use Rattle.vortex_scan.specs.declared.errors.Progress.{Progress}
use Rattle.vortex_scan.specs.declared.errors.Progress.TheVariants as progress
use Rattle.vortex_scan.specs.declared.errors.RunError.{RunError}
use Rattle.vortex_scan.specs.declared.errors.RunError.TheVariants as error
use Rattle.vortex_scan.specs.declared.errors.Visited.{Visited}
use Rattle.vortex_scan.specs.declared.item.Item.{Item}
use Rattle.vortex_scan.specs.declared.item.Slot.{Slot}
use Rattle.vortex_scan.specs.declared.worker.Worker.{Ghosts as Works}
use Rattle.vortex_scan.proofs.Keeping.{slot_after, slot_before, slots_at}
use Rattle.vortex_scan.proofs.Kept.{each_long}
use Rattle.vortex_scan.proofs.Places.{some_at}
use Rattle.worked_runs.specs.Drained.{FailsWithin, GivesAll, IsEmpty, IsInOrder, IsTaken, TellsEach}

-- a call that goes on leaves the limit
module _ {W S C E : Type 0} (works : Works W C E) (source : Ghosts S C) (payload : Meanings C) where
  due_limit : (asked : Bool) (old new : RunState W S) → AsksIfDue works source payload asked old new → new.limit ≡ old.limit
  due_limit true old new a = ap (λ (r : RunState W S). r.limit) a.1.now
  due_limit false old new a = ap (λ (r : RunState W S). r.limit) a.0

  turns_limit : (old new : RunState W S) (came : Visited) → Turns works source payload old new came → new.limit ≡ old.limit
  turns_limit old new came t = ap (λ (r : RunState W S). r.limit) t.visits.now ∙ due_limit t.asked old t.between t.asks

  goes_limit : (turns : ℕ) (old new : RunState W S) → GoesOn works source payload turns old new → new.limit ≡ old.limit
  goes_limit zero old new g = ap (λ (r : RunState W S). r.limit) g
  goes_limit (suc turns) old new g = turns_limit g.0 new _ g.2 ∙ goes_limit turns old g.0 g.1

  ends_limit : (old new : RunState W S) (answer : Progress) → Ends works source payload old new answer → new.limit ≡ old.limit
  ends_limit old new (progress.Batch batch) e = turns_limit old new _ e
  ends_limit old new (progress.RootDone root) e = turns_limit old new _ e
  ends_limit old new progress.Waiting e = due_limit true old new e.0
  ends_limit old new progress.Idle e = due_limit true old new e.0

  pub advances_limit : (old new : RunState W S) (answer : Progress) → Advances works source payload old new answer → new.limit ≡ old.limit
  advances_limit old new answer a = ends_limit a.between new answer a.ends ∙ goes_limit a.turns old a.between a.goes

-- a source that never lies is honest in every call
never_rose : (before now : ℕ) → before ≡ 0 → now ≡ 0 → ¬ (Rose before now)
never_rose before now first then rose = ⊎_elim (λ less. absurd (omega (arith, first, then, less))) (λ last. absurd (omega (arith, then, last))) rose

module _ {W S C E : Type 0} (works : Works W C E) (source : Ghosts S C) (owed : Owing W C) (never : (it : S) → source.lies it ≡ 0) where
  -- what each source tells stays
  tells_on : (contents : ℕ → Content C) (old new : List (Slot S)) → KeepsEach source old new → TellsEach source contents old → TellsEach source contents new
  tells_on contents old new kept told root after now =
      let before = slot_before source old new root after kept now in
      (slots_at source old new root before.0 after kept before.1 now).keeps.content ∙ told root before.0 before.1

  are_honest : (contents : ℕ → Content C) (old new : List (Slot S)) → TellsEach source contents old → AreHonest source contents old new
  are_honest contents old new told root before after there now live =
      (told root before there, never_rose (source.lies before.source) (source.lies after.source) (never before.source) (never after.source))

  honest_at : (contents : ℕ → Content C) (old new : List (Slot S)) (root : RootId) → KeepsEach source old new → TellsEach source contents old → root.0 < length old → IsHonestAt source root (contents root.0) old new
  honest_at contents old new root kept told within =
      let before = some_at old root.0 within in
      let after = slot_after source old new root.0 before.0 kept before.1 in
      record {
        before = before.0;
        there = before.1;
        told = told root.0 before.0 before.1;
        after = after.0;
        now = after.1;
        honest = never_rose (source.lies before.0.source) (source.lies after.0.source) (never before.0.source) (never after.0.source);
      }

  -- a run that was taken nowhere
  pub not_taken : (run : RunState W S) → IsOrderly works run.live → IsTaken works source owed run [] run
  not_taken run orderly = record {
    long = refl;
    told = λ contents told. told;
    given = λ contents told test. refl;
    orderly = orderly;
    work = omega arith;
    limit = refl;
    permitted = λ contents told root failure within permits. permits;
  }

  -- one call more
  pub taken_on : (old mid new : RunState W S) (batches more : List Batch) → KeepsEach source mid.live.slots new.live.slots → KeepsBag source owed more mid.live new.live → StaysOrderly works mid.live new.live
      → WorksOff works mid new → PermitsNoMore works source mid.live new.live → new.limit ≡ mid.limit → IsTaken works source owed old batches mid → IsTaken works source owed old (batches ++ more) new
  taken_on old mid new batches more kept keeps stays off permits limit taken = record {
    long = each_long source mid.live.slots new.live.slots kept ∙ taken.long;
    told = λ contents told. tells_on contents mid.live.slots new.live.slots kept (taken.told contents told);
    given = λ contents told test.
        ap (λ given. bag owed contents test given new.live.items) (map-append entry_of batches more)
        ∙ keeps contents (are_honest contents mid.live.slots new.live.slots (taken.told contents told)) (entries_of batches) test ∙ taken.given contents told test;
    orderly = stays taken.orderly;
    work = omega (arith, (off taken.orderly).0, taken.work);
    limit = limit ∙ taken.limit;
    permitted = λ contents told root failure within permitted. taken.permitted contents told root failure within
        (permits root failure (contents root.0) taken.orderly (honest_at contents mid.live.slots new.live.slots root kept (taken.told contents told) (rw taken.long within)) permitted);
  }

  -- how a call more may fail
  pub fails_in_order : (old mid : RunState W S) (batches : List Batch) (why : RunError E) → old.visits + work_left works old.live.items ≤ old.limit → IsTaken works source owed old batches mid → RefusesOnly works why mid → IsInOrder why
  fails_in_order old mid batches why enough taken refuses =
      let r = refuses taken.orderly in
      record {
        empty_batch = r.empty_batch;
        empty_io = r.empty_io;
        republished = r.republished;
        waits_for_nothing = r.waits_for_nothing;
        step_limit = λ e. absurd (omega (arith, enough, taken.work, taken.limit, r.step_limit e));
      }

  pub fails_within : (old mid : RunState W S) (new : Live W S) (batches : List Batch) (why : RunError E) → KeepsEach source mid.live.slots new.slots → IsTaken works source owed old batches mid → FailsAsPermitted works source why mid.live new → FailsWithin works source why old.live
  fails_within old mid new batches why kept taken fails contents told root failure e within =
      taken.permitted contents told root failure within
      (fails root failure (contents root.0) e taken.orderly (honest_at contents mid.live.slots new.slots root kept (taken.told contents told) (rw taken.long within)))

  -- what a run has given once nothing is live
  pub gives_all : (old now : RunState W S) (batches : List Batch) → IsEmpty owed now.live → IsTaken works source owed old batches now → GivesAll source owed batches old.live
  gives_all old now batches emptied taken contents told test = sym (emptied contents (entries_of batches) test) ∙ taken.given contents told test

  -- a call more that gave nothing
  pub taken_none : (old now : RunState W S) (batches more : List Batch) → more ≡ [] → IsTaken works source owed old (batches ++ more) now → IsTaken works source owed old batches now
  taken_none old now batches more none taken =
      let same : batches ++ more ≡ batches = rw none (append-nil batches) in
      rw same at taken

  -- a call that went on to an answer
  pub advanced : (payload : Meanings C) (begun old new : RunState W S) (batches : List Batch) (answer : Progress) → KeepsEach source old.live.slots new.live.slots → KeepsBag source owed (batches_of answer) old.live new.live
      → StaysOrderly works old.live new.live → WorksOff works old new → PermitsNoMore works source old.live new.live → Advances works source payload old new answer → IsTaken works source owed begun batches old
      → IsTaken works source owed begun (batches ++ batches_of answer) new
  advanced payload begun old new batches answer kept keeps stays off permits advances taken =
      taken_on begun old new batches (batches_of answer) kept keeps stays off permits (advances_limit works source payload old new answer advances) taken

  -- the same where the answer gives no batch
  pub advanced_alone : (payload : Meanings C) (begun old new : RunState W S) (batches : List Batch) (answer : Progress) → batches_of answer ≡ [] → KeepsEach source old.live.slots new.live.slots → KeepsBag source owed (batches_of answer) old.live new.live
      → StaysOrderly works old.live new.live → WorksOff works old new → PermitsNoMore works source old.live new.live → Advances works source payload old new answer → IsTaken works source owed begun batches old
      → IsTaken works source owed begun batches new
  advanced_alone payload begun old new batches answer none kept keeps stays off permits advances taken =
      taken_none begun new batches (batches_of answer) none (advanced payload begun old new batches answer kept keeps stays off permits advances taken)

  -- a wait
  pub waited : (begun old new : RunState W S) (batches : List Batch) → KeepsEach source old.live.slots new.live.slots → KeepsBag source owed [] old.live new.live → StaysOrderly works old.live new.live → WorksOff works old new
      → PermitsNoMore works source old.live new.live → new ≡ record old { live = new.live } → IsTaken works source owed begun batches old → IsTaken works source owed begun batches new
  waited begun old new batches kept keeps stays off permits now taken =
      taken_none begun new batches [] refl (taken_on begun old new batches [] kept keeps stays off permits (ap (λ (r : RunState W S). r.limit) now) taken)

-- a run of one root
module _ {S C : Type 0} (source : Ghosts S C) where
  one_told : (io : S) (content : Content C) → source.content io ≡ Some content → TellsEach source (λ _. content) (record { source = io; live = true } ∷ [])
  one_told io content told zero slot there = let same : record { source = io; live = true } ≡ slot = cc in let it : io ≡ slot.source = ap (λ (s : Slot S). s.source) same in rw it at told
  one_told io content told (suc root) slot there = absurd (cc)

module _ {W S C : Type 0} (source : Ghosts S C) (owed : Owing W C) where
  pub one_gives : (batches : List Batch) (steps : ℕ) (work : W) (scope : WorkScope) (io : S) (fresh limited run : RunState W S) → fresh ≡ new_run → limited ≡ record fresh { limit = steps } → run ≡ admitted limited work scope io
      → GivesAll source owed batches run.live → (content : Content C) → source.content io ≡ Some content → (test : Entry → Bool) → count_by test (entries_of batches) ≡ count_by test (owed scope work content)
  one_gives batches steps work scope io fresh limited run new with_limit joined gives content told test =
      let all : GivesAll source owed batches (admitted (record new_run { limit = steps }) work scope io).live = rw (joined, with_limit, new) at gives in
      all (λ _. content) (one_told source io content told) test ∙ omega arith

module _ {W S C E : Type 0} (works : Works W C E) (source : Ghosts S C) where
  one_item : (at : ℕ) (item one : Item W) → slice_get (one ∷ []) at ≡ Some item → item ≡ one
  one_item zero item one there = cc
  one_item (suc at) item one there = absurd (cc)

  pub one_permits : (why : RunError E) (steps : ℕ) (work : W) (scope : WorkScope) (io : S) (fresh limited run : RunState W S) → fresh ≡ new_run → limited ≡ record fresh { limit = steps } → run ≡ admitted limited work scope io
      → FailsWithin works source why run.live → (content : Content C) → source.content io ≡ Some content → (failure : E) → why ≡ error.Planner (record { 0 = 0 }) failure → works.permits work content failure
  one_permits why steps work scope io fresh limited run new with_limit joined fails content told failure e =
      let within : FailsWithin works source why (admitted (record new_run { limit = steps }) work scope io).live = rw (joined, with_limit, new) at fails in
      let p : IsPermitted works (record { 0 = 0 }) content failure (root_item 0 0 scope work ∷ []) = within (λ _. content) (one_told source io content told) (record { 0 = 0 }) failure e (lit< tt) in
      subst (λ (item : Item W). works.permits item.work content failure) (one_item p.at p.item (root_item 0 0 scope work) p.there) p.permits
