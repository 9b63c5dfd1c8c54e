-- What listers tell keeps the rules of planners.
use Rattle.std.specs.Prelude.{◌≡◌, ◌≢◌, ℕ, ◌≤◌, true, IsTrue, Option, Result, Ok, Err, [], ◌∷◌, filter, refl}
use Rattle.std.proofs.Common.{arith}
use Rattle.vortex_io.specs.Source.{Content, is_of_kind}
use Rattle.vortex_io.specs.declared.ids.IoRequestId.{IoRequestId}
use Rattle.vortex_io.specs.declared.request.IoError.{IoError}
use Rattle.vortex_io.specs.declared.request.IoError.TheVariants as error
use Rattle.vortex_io.specs.declared.request.IoRequest.{IoRequest}
use Rattle.vortex_io.specs.declared.request.IoResult.{IoResult}
use Rattle.vortex_scan.specs.Orderly.{ChildPermits, Children, PlannerGoesOn, PlannerIsOrderly, has_number, is_other}
use Rattle.vortex_scan.specs.Owed.{PlannerGives, PlannerOwes}
use Rattle.vortex_scan.specs.Plans.{PlannerFollowsPlan, PlannerSpends}
use Rattle.vortex_scan.specs.declared.state.PlannerOutput.{PlannerOutput}
use Rattle.vortex_scan.specs.declared.state.PlannerOutput.TheVariants as planner
use Rattle.vortex_scan.specs.declared.state.State.TheVariants as state
use Rattle.worked_runs.specs.Lister.{ListerComputes, ListerState, ListerTakes, lister_asked, lister_names, lister_owed, lister_permits, lister_plan, lister_state, lister_work}
use Rattle.worked_runs.specs.Reader.{ReaderState, is_fresh, is_want, reader_asked, reader_owed, reader_permits, reader_plan, reader_state, reader_work}

module _ {C : Type 0} (means : C → ℕ) where
  -- what planners know of readers
  abbrev pub readers : Children ReaderState C IoError
  readers = record { orderly = λ _. Unit {0}; asked = reader_asked; work = reader_work; permits = reader_permits means; state_is = reader_state }

  lister_gives : (content : Content C) (old : ListerState) (answer : Result (PlannerOutput ListerState ReaderState) IoError) (new : ListerState) → ListerComputes old answer new
      → PlannerGives (λ child. lister_owed means child content) (λ child. reader_owed means child content) (lister_owed means old content) answer (lister_owed means new content)
  lister_gives content old (Ok planner.Done) new c = rw c.0 refl
  lister_gives content old (Ok planner.Continue) new c = absurd c
  lister_gives content old (Ok (planner.NeedsIO batch)) new c = absurd c
  lister_gives content old (Ok (planner.Planner scope child)) new c = absurd c
  lister_gives content old (Ok (planner.Morsel scope child)) new c = rw (c.0, c.1, c.2) refl
  lister_gives content old (Err failure) new c = tt

  pub lister_owes : PlannerOwes means ListerTakes lister_names lister_state ListerComputes (lister_owed means) (reader_owed means)
  lister_owes = record {
    gives = lister_gives;
    ends = λ content it done. absurd (cc);
    delivers = λ content old number target outcome new takes named agrees. rw takes refl;
    publishes = λ old batch new c. absurd c;
  }

  lister_goes_on : (old : ListerState) (output : PlannerOutput ListerState ReaderState) (new : ListerState) → Unit {0} → ListerComputes old (Ok output) new
      → Unit {0} × PlannerGoesOn (λ _. Unit {0}) lister_asked lister_state lister_work readers output (lister_asked old) (lister_asked new) (lister_work old) (lister_work new) (lister_state new)
  lister_goes_on old planner.Done new orderly c = (tt, refl)
  lister_goes_on old planner.Continue new orderly c = absurd c
  lister_goes_on old (planner.NeedsIO batch) new orderly c = absurd c
  lister_goes_on old (planner.Planner scope child) new orderly c = absurd c
  lister_goes_on old (planner.Morsel scope child) new orderly c = rw (c.0, c.2) (tt, ((tt, refl, (λ e. absurd (cc)), omega arith), refl, (λ e. absurd (cc))))

  lister_takes_orderly : (old : ListerState) (number : IoRequestId) (request : IoRequest) (outcome : IoResult C) (new : ListerState) → Unit {0}
      → filter (has_number number) (lister_asked old) ≡ request ∷ [] → IsTrue (is_of_kind request.target outcome) → ListerTakes old number outcome new
      → Unit {0} × (lister_asked new ≡ filter (is_other number) (lister_asked old)) × (lister_work new ≤ lister_work old) × (lister_state old ≢ state.Waiting → lister_state new ≢ state.Waiting)
  lister_takes_orderly old number request outcome new orderly e kind takes = absurd (cc)

  lister_memory : (it : ListerState) (content : Content C) (failure : IoError) → Unit {0} → is_want failure ≡ true → lister_permits means it content failure
  lister_memory it content error.Fault orderly e = absurd (cc)
  lister_memory it content error.OutOfMemory orderly e = tt

  lister_permits_less : (old : ListerState) (output : PlannerOutput ListerState ReaderState) (new : ListerState) (content : Content C) (failure : IoError) → Unit {0} → ListerComputes old (Ok output) new
      → (lister_permits means new content failure → lister_permits means old content failure) × ChildPermits (lister_permits means) (reader_permits means) output content failure (lister_permits means old content failure)
  lister_permits_less old planner.Done new content error.OutOfMemory orderly c = ((λ permits. tt), tt)
  lister_permits_less old planner.Continue new content error.OutOfMemory orderly c = ((λ permits. tt), tt)
  lister_permits_less old (planner.NeedsIO batch) new content error.OutOfMemory orderly c = ((λ permits. tt), tt)
  lister_permits_less old (planner.Planner scope child) new content error.OutOfMemory orderly c = ((λ permits. tt), (λ permits. tt))
  lister_permits_less old (planner.Morsel scope child) new content error.OutOfMemory orderly c = ((λ permits. tt), (λ permits. tt))
  lister_permits_less old planner.Done new content error.Fault orderly c = rw c.1 ((λ permits. permits), tt)
  lister_permits_less old planner.Continue new content error.Fault orderly c = absurd c
  lister_permits_less old (planner.NeedsIO batch) new content error.Fault orderly c = absurd c
  lister_permits_less old (planner.Planner scope child) new content error.Fault orderly c = absurd c
  lister_permits_less old (planner.Morsel scope child) new content error.Fault orderly c =
      ((λ permits. (permits.0, (omega arith), permits.2)), (λ permits. (new.left, (omega arith), (rw c.2 at permits))))

  pub lister_is_orderly : PlannerIsOrderly means ListerTakes lister_state ListerComputes (λ _. Unit {0}) lister_asked lister_work is_want (lister_permits means) readers
  lister_is_orderly = record {
    some_work = λ it orderly. omega arith;
    waits = λ it orderly waits. absurd (cc);
    goes_on = lister_goes_on;
    delivers = lister_takes_orderly;
    memory = lister_memory;
    fails = λ old failure new orderly c. absurd c;
    permits_less = lister_permits_less;
    permits_given = λ old number request outcome new content failure orderly e agrees takes permits. absurd (cc);
  }

  lister_spends : (told : Option (Content C)) (old : ListerState) (answer : Result (PlannerOutput ListerState ReaderState) IoError) (new : ListerState) → ListerComputes old answer new
      → PlannerSpends (λ child. reader_plan child told) (lister_plan old told) answer (lister_plan new told)
  lister_spends told old (Ok planner.Done) new c = rw c.0 refl
  lister_spends told old (Ok planner.Continue) new c = absurd c
  lister_spends told old (Ok (planner.NeedsIO batch)) new c = absurd c
  lister_spends told old (Ok (planner.Planner scope child)) new c = absurd c
  lister_spends told old (Ok (planner.Morsel scope child)) new c = rw (c.0, c.1, c.2) refl
  lister_spends told old (Err failure) new c = absurd c

  pub lister_follows_plan : PlannerFollowsPlan lister_state ListerComputes lister_plan (reader_plan {C = C}) is_fresh
  lister_follows_plan = record {
    spends = lister_spends;
    fresh_child = λ old scope child new c. rw c.2 refl;
    acts = λ it e. absurd (cc);
    ends = λ told it done. absurd (cc);
  }
