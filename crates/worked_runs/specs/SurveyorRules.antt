-- What surveyors tell keeps the rules of planners.
use Rattle.std.specs.Prelude.{◌≡◌, ◌≢◌, ℕ, suc, ◌+◌, ◌*◌, ◌<◌, ◌≤◌, Bool, true, false, cond, IsTrue, Some, Result, Ok, Err, List, [], ◌∷◌, ◌++◌, filter, refl}
use Rattle.std.proofs.Common.{sym, ap, subst, arith, inl, inr}
use Rattle.std.proofs.lemmas.List.Elements.{All-cons, All-nil}
use Rattle.std.proofs.lemmas.List.{append-nil}
use Rattle.vortex_io.specs.Source.{Agrees, Content, is_fetch, is_of_kind}
use Rattle.vortex_io.specs.declared.ids.IoRequestId.{IoRequestId}
use Rattle.vortex_io.specs.declared.request.IoError.{IoError}
use Rattle.vortex_io.specs.declared.request.IoError.TheVariants as error
use Rattle.vortex_io.specs.declared.request.IoRequest.{IoRequest}
use Rattle.vortex_io.specs.declared.request.IoResult.{IoResult}
use Rattle.vortex_io.specs.declared.request.IoResult.TheVariants as result
use Rattle.vortex_io.specs.declared.request.IoTarget.{IoTarget}
use Rattle.vortex_io.specs.declared.request.IoTarget.TheVariants as target
use Rattle.vortex_scan_types.specs.declared.batch.WorkScope.{WorkScope}
use Rattle.vortex_scan.specs.Orderly.{ChildPermits, IsNewChild, PlannerGoesOn, PlannerIsOrderly, has_number, is_other}
use Rattle.vortex_scan.specs.Owed.{NamesTargets, PlannerGives, PlannerOwes, under}
use Rattle.vortex_scan.specs.declared.state.PlannerOutput.{PlannerOutput}
use Rattle.vortex_scan.specs.declared.state.PlannerOutput.TheVariants as planner
use Rattle.vortex_scan.specs.declared.state.State.TheVariants as state
use Rattle.worked_runs.specs.Lister.{HasNoRows, owed_below, scope_of}
use Rattle.worked_runs.specs.ListerRules.{readers}
use Rattle.worked_runs.specs.Reader.{ReaderState, is_want, new_reader, reader_owed, reader_permits}
use Rattle.worked_runs.specs.ReaderRules.{one_passes, others_none}
use Rattle.worked_runs.specs.Surveyor.{SurveyorComputes, SurveyorState, SurveyorTakes, asked_if, counted, listing, size_request, splits_at, splits_left, surveyor_asked, surveyor_names, surveyor_owed, surveyor_permits, surveyor_state, surveyor_work, work_before}

-- what is asked is the fetch of the number of splits
pub size_is : (waits : Bool) (test : IoRequest → Bool) (request : IoRequest) → filter test (asked_if waits) ≡ request ∷ [] → size_request ≡ request
size_is false test request e = absurd (cc)
size_is true test request e = (one_passes test size_request request e).1

-- knowing how many splits there are leaves no more work
less_work : (knows lists : Bool) (left size : ℕ) → 4 * splits_at knows left size + 1 + work_before true lists false ≤ 4 * left + 1 + work_before knows lists true
less_work false false left size = omega arith
less_work false true left size = omega arith
less_work true false left size = omega arith
less_work true true left size = omega arith

-- what computes does not wait
is_still : (waits : Bool) → cond waits state.Waiting state.NeedsCompute ≡ state.NeedsCompute → waits ≡ false
is_still false computes = refl
is_still true computes = absurd (cc)

module _ {C : Type 0} (means : C → ℕ) where
  -- how many splits are left stays the same, where what is taken is how many there are
  same_splits : (content : Content C) (waits : Bool) (it : SurveyorState) (outcome : IoResult C) → Agrees means content target.Size outcome → splits_left (counted waits it outcome) content ≡ splits_left it content
  same_splits content false it outcome agrees = refl
  same_splits content true it (result.Chunk chunk) agrees = absurd agrees
  same_splits content true it (result.Size size) agrees = ap (λ all. splits_at it.knows it.left all) agrees

  same_lists : (waits : Bool) (it : SurveyorState) (outcome : IoResult C) → (counted waits it outcome).lists ≡ it.lists
  same_lists false it outcome = refl
  same_lists true it (result.Chunk chunk) = refl
  same_lists true it (result.Size size) = refl

  -- the last split's rows are those of its reader
  gives_last : (content : Content C) (old : SurveyorState) (split : ℕ) (scope : WorkScope) (child : ReaderState) (new : SurveyorState) → old.knows ≡ true → old.left ≡ suc split → scope ≡ scope_of split
      → child ≡ new_reader split → new ≡ listing split → surveyor_owed means old content ≡ under scope (reader_owed means child content) ++ surveyor_owed means new content
  gives_last content old split scope child new knows last of_split reader rest = rw (rest, reader, of_split, last, knows) refl

  surveyor_gives : (content : Content C) (old : SurveyorState) (answer : Result (PlannerOutput SurveyorState ReaderState) IoError) (new : SurveyorState) → SurveyorComputes old answer new
      → PlannerGives (λ child. surveyor_owed means child content) (λ child. reader_owed means child content) (surveyor_owed means old content) answer (surveyor_owed means new content)
  surveyor_gives content old (Ok planner.Done) new c = rw (c.1, c.2) refl
  surveyor_gives content old (Ok planner.Continue) new c = absurd c
  surveyor_gives content old (Ok (planner.NeedsIO batch)) new c = rw c.3 refl
  surveyor_gives content old (Ok (planner.Planner scope child)) new c = rw (c.4, c.3, c.1) (sym (append-nil (owed_below means content old.left)))
  surveyor_gives content old (Ok (planner.Morsel scope child)) new c = gives_last content old new.left scope child new c.1 c.3 c.4 c.5 c.6
  surveyor_gives content old (Err failure) new c = tt

  surveyor_delivers : (content : Content C) (old : SurveyorState) (number : IoRequestId) (target : IoTarget) (outcome : IoResult C) (new : SurveyorState) → SurveyorTakes old number outcome new
      → surveyor_names old number ≡ Some target → Agrees means content target outcome → surveyor_owed means new content ≡ surveyor_owed means old content
  surveyor_delivers content old number named_target outcome new takes named agrees =
      let e : target.Size ≡ named_target = cc in
      let a : Agrees means content target.Size outcome = subst (λ (t : IoTarget). Agrees means content t outcome) (sym e) agrees in
      rw takes (ap (owed_below means content) (same_splits content old.waits old outcome a))

  surveyor_publishes : (old : SurveyorState) (batch : List IoRequest) (new : SurveyorState) → SurveyorComputes old (Ok (planner.NeedsIO batch)) new → NamesTargets (surveyor_names old) batch
  surveyor_publishes old batch new c = rw c.2 (All-cons (λ (request : IoRequest). IsTrue (is_fetch request) → surveyor_names old request.request ≡ Some request.target) size_request [] (λ owed. refl) (All-nil (λ (request : IoRequest). IsTrue (is_fetch request) → surveyor_names old request.request ≡ Some request.target)))

  never_done : (waits : Bool) → cond waits state.Waiting state.NeedsCompute ≡ state.Done → ⊥
  never_done false done = cc
  never_done true done = cc

  pub surveyor_owes : PlannerOwes means SurveyorTakes surveyor_names surveyor_state SurveyorComputes (surveyor_owed means) (reader_owed means)
  surveyor_owes = record { gives = surveyor_gives; ends = λ content it done. absurd (never_done it.waits done); delivers = surveyor_delivers; publishes = surveyor_publishes }

  asks_while : (waits : Bool) → cond waits state.Waiting state.NeedsCompute ≡ state.Waiting → asked_if waits ≢ []
  asks_while false waiting = absurd (cc)
  asks_while true waiting = λ none. cc

  -- the reader of the last split takes less than what is left
  reader_joins : (old : SurveyorState) (split : ℕ) (child : ReaderState) (new : SurveyorState) → old.waits ≡ false → old.knows ≡ true → old.lists ≡ true → old.left ≡ suc split → child ≡ new_reader split → new ≡ listing split
      → Unit {0} × (IsNewChild (λ _. Unit {0}) (readers means).asked (readers means).state_is (readers means).work child (surveyor_work old) (surveyor_work new) × (surveyor_asked new ≡ surveyor_asked old) × (surveyor_state new ≢ state.Waiting))
  reader_joins old split child new still knows lists last reader rest = rw (rest, reader, last, knows, lists, still) (tt, ((tt, refl, (λ e. absurd (cc)), omega arith), refl, (λ e. absurd (cc))))

  surveyor_goes_on : (old : SurveyorState) (output : PlannerOutput SurveyorState ReaderState) (new : SurveyorState) → Unit {0} → SurveyorComputes old (Ok output) new
      → Unit {0} × PlannerGoesOn (λ _. Unit {0}) surveyor_asked surveyor_state surveyor_work (readers means) output (surveyor_asked old) (surveyor_asked new) (surveyor_work old) (surveyor_work new) (surveyor_state new)
  surveyor_goes_on old planner.Done new orderly c = (tt, ap surveyor_asked c.3)
  surveyor_goes_on old planner.Continue new orderly c = absurd c
  surveyor_goes_on old (planner.NeedsIO batch) new orderly c = rw (c.3, c.2, c.1, is_still old.waits c.0) (tt, (record { some = λ e. absurd (cc); numbers = refl }, refl, omega arith))
  surveyor_goes_on old (planner.Planner scope child) new orderly c = rw (c.4, c.3, c.1, c.2, is_still old.waits c.0) (tt, ((tt, refl, (λ e. absurd (cc)), omega arith), refl, (λ e. absurd (cc))))
  surveyor_goes_on old (planner.Morsel scope child) new orderly c = reader_joins old new.left child new (is_still old.waits c.0) c.1 c.2 c.3 c.5 c.6

  surveyor_takes_asked : (old : SurveyorState) (waits : Bool) → old.waits ≡ waits → (number : IoRequestId) (request : IoRequest) (outcome : IoResult C)
      → filter (has_number number) (asked_if waits) ≡ request ∷ [] → IsTrue (is_of_kind request.target outcome)
      → let new : SurveyorState = counted waits old outcome in
      Unit {0} × (surveyor_asked new ≡ filter (is_other number) (asked_if waits)) × (surveyor_work new ≤ surveyor_work old) × (cond waits state.Waiting state.NeedsCompute ≢ state.Waiting → surveyor_state new ≢ state.Waiting)
  surveyor_takes_asked old false is number request outcome e kind = absurd (cc)
  surveyor_takes_asked old true is number request (result.Chunk chunk) e kind =
      let no : false ≡ true = subst (λ (r : IoRequest). IsTrue (is_of_kind {C = C} r.target (result.Chunk chunk))) (sym (one_passes (has_number number) size_request request e).1) kind in
      absurd (cc)
  surveyor_takes_asked old true is number request (result.Size size) e kind =
      (tt, others_none number size_request (one_passes (has_number number) size_request request e).0, rw is (less_work old.knows old.lists old.left size), (λ w. absurd (w refl)))

  surveyor_takes_orderly : (old : SurveyorState) (number : IoRequestId) (request : IoRequest) (outcome : IoResult C) (new : SurveyorState) → Unit {0}
      → filter (has_number number) (surveyor_asked old) ≡ request ∷ [] → IsTrue (is_of_kind request.target outcome) → SurveyorTakes old number outcome new
      → Unit {0} × (surveyor_asked new ≡ filter (is_other number) (surveyor_asked old)) × (surveyor_work new ≤ surveyor_work old) × (surveyor_state old ≢ state.Waiting → surveyor_state new ≢ state.Waiting)
  surveyor_takes_orderly old number request outcome new orderly e kind takes = rw takes (surveyor_takes_asked old old.waits refl number request outcome e kind)

  surveyor_memory : (it : SurveyorState) (content : Content C) (failure : IoError) → Unit {0} → is_want failure ≡ true → surveyor_permits means it content failure
  surveyor_memory it content error.Fault orderly e = absurd (cc)
  surveyor_memory it content error.OutOfMemory orderly e = tt

  surveyor_fails : (old : SurveyorState) (failure : IoError) (new : SurveyorState) → Unit {0} → SurveyorComputes old (Err failure) new → (content : Content C) → surveyor_permits means old content failure
  surveyor_fails old error.Fault new orderly c content = inr (c.1, rw c.0 c.2)
  surveyor_fails old error.OutOfMemory new orderly c content = tt

  -- a planner that makes readers is permitted a fault only for a chunk of no rows
  lists_rows : (content : Content C) (splits : ℕ) → surveyor_permits means (listing splits) content error.Fault → HasNoRows means content splits
  lists_rows content splits permits = elim permits [ inl rows ↦ rows | inr none ↦ absurd (let no : true ≡ false = none.0 in cc) ]

  more_rows : (content : Content C) (fewer more : ℕ) → fewer ≤ more → HasNoRows means content fewer → HasNoRows means content more
  more_rows content fewer more less rows = (rows.0, (let below : rows.0 < fewer = rows.1 in omega arith), rows.2)

  -- where it knows its splits, it is permitted what these permit
  permits_rows : (old : SurveyorState) (content : Content C) → old.knows ≡ true → HasNoRows means content old.left → surveyor_permits means old content error.Fault
  permits_rows old content knows rows = inl (rw knows rows)

  listed_less : (old : SurveyorState) (split : ℕ) (child : ReaderState) (new : SurveyorState) (content : Content C) → old.knows ≡ true → old.left ≡ suc split → child ≡ new_reader split → new ≡ listing split
      → (surveyor_permits means new content error.Fault → surveyor_permits means old content error.Fault) × (reader_permits means child content error.Fault → surveyor_permits means old content error.Fault)
  listed_less old split child new content knows last reader rest = (
    (λ permits. permits_rows old content knows (more_rows content split old.left (omega arith) (lists_rows content split (rw rest at permits)))),
    (λ permits. permits_rows old content knows (split, (omega arith), (rw reader at permits))),
  )

  surveyor_permits_less : (old : SurveyorState) (output : PlannerOutput SurveyorState ReaderState) (new : SurveyorState) (content : Content C) (failure : IoError) → Unit {0} → SurveyorComputes old (Ok output) new
      → (surveyor_permits means new content failure → surveyor_permits means old content failure) × ChildPermits (surveyor_permits means) (reader_permits means) output content failure (surveyor_permits means old content failure)
  surveyor_permits_less old planner.Done new content error.OutOfMemory orderly c = ((λ permits. tt), tt)
  surveyor_permits_less old planner.Continue new content error.OutOfMemory orderly c = ((λ permits. tt), tt)
  surveyor_permits_less old (planner.NeedsIO batch) new content error.OutOfMemory orderly c = ((λ permits. tt), tt)
  surveyor_permits_less old (planner.Planner scope child) new content error.OutOfMemory orderly c = ((λ permits. tt), (λ permits. tt))
  surveyor_permits_less old (planner.Morsel scope child) new content error.OutOfMemory orderly c = ((λ permits. tt), (λ permits. tt))
  surveyor_permits_less old planner.Done new content error.Fault orderly c = rw c.3 ((λ permits. permits), tt)
  surveyor_permits_less old planner.Continue new content error.Fault orderly c = absurd c
  surveyor_permits_less old (planner.NeedsIO batch) new content error.Fault orderly c = rw c.3 ((λ permits. permits), tt)
  surveyor_permits_less old (planner.Planner scope child) new content error.Fault orderly c = (
    (λ permits. permits_rows old content c.1 (more_rows content 0 old.left (omega arith) (lists_rows content 0 (rw c.4 at permits)))),
    (λ permits. permits_rows old content c.1 (lists_rows content old.left (rw c.3 at permits))),
  )
  surveyor_permits_less old (planner.Morsel scope child) new content error.Fault orderly c = listed_less old new.left child new content c.1 c.3 c.5 c.6

  surveyor_permits_given : (old : SurveyorState) (number : IoRequestId) (request : IoRequest) (outcome : IoResult C) (new : SurveyorState) (content : Content C) (failure : IoError) → Unit {0}
      → filter (has_number number) (surveyor_asked old) ≡ request ∷ [] → Agrees means content request.target outcome → SurveyorTakes old number outcome new → surveyor_permits means new content failure → surveyor_permits means old content failure
  surveyor_permits_given old number request outcome new content error.OutOfMemory orderly e agrees takes permits = tt
  surveyor_permits_given old number request outcome new content error.Fault orderly e agrees takes permits =
      let a : Agrees means content target.Size outcome = subst (λ (r : IoRequest). Agrees means content r.target outcome) (sym (size_is old.waits (has_number number) request e)) agrees in
      let p : surveyor_permits means (counted old.waits old outcome) content error.Fault = rw takes at permits in
      rw (same_splits content old.waits old outcome a, same_lists old.waits old outcome) at p

  pub surveyor_is_orderly : PlannerIsOrderly means SurveyorTakes surveyor_state SurveyorComputes (λ _. Unit {0}) surveyor_asked surveyor_work is_want (surveyor_permits means) (readers means)
  surveyor_is_orderly = record {
    some_work = λ it orderly. omega arith;
    waits = λ it orderly waits. asks_while it.waits waits;
    goes_on = surveyor_goes_on;
    delivers = surveyor_takes_orderly;
    memory = surveyor_memory;
    fails = surveyor_fails;
    permits_less = surveyor_permits_less;
    permits_given = surveyor_permits_given;
  }
