-- What readers tell keeps the rules of morsels.
use Rattle.std.specs.Prelude.{◌≡◌, ◌≢◌, ℕ, ◌<◌, ◌≤◌, Bool, true, false, cond, IsTrue, Option, None, Some, Result, Ok, Err, List, [], ◌∷◌, filter, refl}
use Rattle.std.proofs.Common.{sym, ap, subst, ◌∙◌, arith, lit<}
use Rattle.std.proofs.lemmas.List.Elements.{All-cons, All-nil}
use Rattle.vortex_io.specs.Source.{Agrees, Content, is_fetch, is_of_kind}
use Rattle.vortex_io.specs.declared.ids.IoRequestId.{IoRequestId}
use Rattle.vortex_io.specs.declared.request.IoError.{IoError}
use Rattle.vortex_io.specs.declared.request.IoError.TheVariants as error
use Rattle.vortex_io.specs.declared.request.IoRequest.{IoRequest}
use Rattle.vortex_io.specs.declared.request.IoResult.{IoResult}
use Rattle.vortex_io.specs.declared.request.IoResult.TheVariants as result
use Rattle.vortex_io.specs.declared.request.IoTarget.{IoTarget}
use Rattle.vortex_scan.specs.Orderly.{MorselGoesOn, MorselIsOrderly, has_number, is_other}
use Rattle.vortex_scan.specs.Owed.{MorselGives, MorselOwes, NamesTargets}
use Rattle.vortex_scan.specs.Plans.{DeliversAsTold, IsSpent, MorselFollowsPlan, answer_fetches}
use Rattle.vortex_scan.specs.declared.state.MorselOutput.{MorselOutput}
use Rattle.vortex_scan.specs.declared.state.MorselOutput.TheVariants as morsel
use Rattle.vortex_scan.specs.declared.state.State.{State}
use Rattle.vortex_scan.specs.declared.state.State.TheVariants as state
use Rattle.worked_runs.specs.Reader.{ReaderComputes, ReaderState, ReaderTakes, asked_while, chunk_request, first_chunk, handed, has_no_columns, is_fresh, is_fresh_at, is_want, number_left, reader_asked, reader_names, reader_owed, reader_permits, reader_plan, reader_state, reader_work, rows_for, work_at}

-- where the part of one request that passes a test is a request, the one passes and is that
by_test : (passes : Bool) (one request : IoRequest) → cond passes (one ∷ []) [] ≡ request ∷ [] → (passes ≡ true) × (one ≡ request)
by_test false one request e = absurd (cc)
by_test true one request e = (refl, cc)

pub one_passes : (test : IoRequest → Bool) (one request : IoRequest) → filter test (one ∷ []) ≡ request ∷ [] → (test one ≡ true) × (one ≡ request)
one_passes test one request e = by_test (test one) one request e

-- where a request is of a number, none of the one is of another
pub others_none : (number : IoRequestId) (one : IoRequest) → has_number number one ≡ true → [] ≡ filter (is_other number) (one ∷ [])
others_none number one e = rw e refl

-- what is asked is the fetch of its chunk
asked_is : (split : ℕ) (shown : State) (test : IoRequest → Bool) (request : IoRequest) → filter test (asked_while shown (chunk_request split)) ≡ request ∷ [] → chunk_request split ≡ request
asked_is split state.Done test request e = absurd (cc)
asked_is split state.NeedsCompute test request e = absurd (cc)
asked_is split state.Waiting test request e = (one_passes test (chunk_request split) request e).1

-- a fresh reader computes
fresh_computes : (shown : State) (given : Option ℕ) → is_fresh_at shown given ≡ true → shown ≡ state.NeedsCompute
fresh_computes state.Done given fresh = absurd (cc)
fresh_computes state.NeedsCompute given fresh = refl
fresh_computes state.Waiting given fresh = absurd (cc)

-- a reader's own rules, over its parts
module _ {C : Type 0} (means : C → ℕ) where
  pub left_given : (content : Content C) (split : ℕ) (shown : State) (given : Option ℕ) (outcome : IoResult C) → Agrees means content (first_chunk split) outcome
      → number_left means (handed means shown (record { split = split; shown = shown; given = given }) outcome) content ≡ number_left means (record { split = split; shown = shown; given = given }) content
  left_given content split state.Done given outcome agrees = refl
  left_given content split state.NeedsCompute given outcome agrees = refl
  left_given content split state.Waiting given (result.Chunk chunk) agrees = sym agrees
  left_given content split state.Waiting given (result.Size size) agrees = absurd agrees

  pub split_given : (shown : State) (it : ReaderState) (outcome : IoResult C) → (handed means shown it outcome).split ≡ it.split
  split_given state.Done it outcome = refl
  split_given state.NeedsCompute it outcome = refl
  split_given state.Waiting it (result.Chunk chunk) = refl
  split_given state.Waiting it (result.Size size) = refl

  reader_gives : (content : Content C) (old : ReaderState) (answer : Result MorselOutput IoError) (new : ReaderState) → ReaderComputes old answer new → MorselGives (reader_owed means old content) answer (reader_owed means new content)
  reader_gives content old (Ok morsel.Done) new c = absurd c
  reader_gives content old (Ok morsel.Continue) new c = absurd c
  reader_gives content old (Ok (morsel.NeedsIO batch)) new c = rw (c.3, c.0, c.1) refl
  reader_gives content old (Ok (morsel.Batch array)) new c = rw (c.4, c.0, c.1, c.3) refl
  reader_gives content old (Err failure) new c = tt

  reader_ends : (content : Content C) (it : ReaderState) → it.shown ≡ state.Done → reader_owed means it content ≡ []
  reader_ends content it done = rw done refl

  reader_delivers : (content : Content C) (old : ReaderState) (number : IoRequestId) (target : IoTarget) (outcome : IoResult C) (new : ReaderState) → ReaderTakes means old number outcome new
      → reader_names old number ≡ Some target → Agrees means content target outcome → reader_owed means new content ≡ reader_owed means old content
  reader_delivers content old number target outcome new takes named agrees =
      let e : first_chunk old.split ≡ target = cc in
      let a : Agrees means content (first_chunk old.split) outcome = subst (λ (t : IoTarget). Agrees means content t outcome) (sym e) agrees in
      rw takes (ap rows_for (left_given content old.split old.shown old.given outcome a))

  -- its one request asks for what its number names
  reader_publishes : (old : ReaderState) (batch : List IoRequest) (new : ReaderState) → ReaderComputes old (Ok (morsel.NeedsIO batch)) new → NamesTargets (reader_names old) batch
  reader_publishes old batch new c = rw c.2 (All-cons (λ (request : IoRequest). IsTrue (is_fetch request) → reader_names old request.request ≡ Some request.target) (chunk_request old.split) [] (λ owed. refl) (All-nil (λ (request : IoRequest). IsTrue (is_fetch request) → reader_names old request.request ≡ Some request.target)))

  pub reader_owes : MorselOwes means (ReaderTakes means) reader_names reader_state ReaderComputes (reader_owed means)
  reader_owes = record { gives = reader_gives; ends = reader_ends; delivers = reader_delivers; publishes = reader_publishes }

  pub some_work_at : (shown : State) (given : Option ℕ) → 0 < work_at shown given
  some_work_at state.Done given = lit< tt
  some_work_at state.NeedsCompute None = lit< tt
  some_work_at state.NeedsCompute (Some number) = lit< tt
  some_work_at state.Waiting given = lit< tt

  reader_waits : (it : ReaderState) → it.shown ≡ state.Waiting → reader_asked it ≢ []
  reader_waits it waits = rw waits (λ e. absurd (cc))

  reader_goes_on : (old : ReaderState) (output : MorselOutput) (new : ReaderState) → Unit {0} → ReaderComputes old (Ok output) new
      → Unit {0} × MorselGoesOn output (reader_asked old) (reader_asked new) (reader_work old) (reader_work new) (reader_state new)
  reader_goes_on old morsel.Done new orderly c = absurd c
  reader_goes_on old morsel.Continue new orderly c = absurd c
  reader_goes_on old (morsel.NeedsIO batch) new orderly c = rw (c.3, c.2, c.0, c.1) (tt, (record { some = λ e. absurd (cc); numbers = refl }, refl, lit< tt))
  reader_goes_on old (morsel.Batch array) new orderly c = rw (c.4, c.0, c.1) (tt, (c.2, refl, lit< tt, (λ e. absurd (cc))))

  reader_takes_asked : (split : ℕ) (shown : State) (given : Option ℕ) (number : IoRequestId) (request : IoRequest) (outcome : IoResult C)
      → filter (has_number number) (asked_while shown (chunk_request split)) ≡ request ∷ [] → IsTrue (is_of_kind request.target outcome)
      → let old : ReaderState = record { split = split; shown = shown; given = given } in let new : ReaderState = handed means shown old outcome in
      Unit {0} × (reader_asked new ≡ filter (is_other number) (reader_asked old)) × (reader_work new ≤ reader_work old) × (shown ≢ state.Waiting → new.shown ≢ state.Waiting)
  reader_takes_asked split state.Done given number request outcome e kind = absurd (cc)
  reader_takes_asked split state.NeedsCompute given number request outcome e kind = absurd (cc)
  reader_takes_asked split state.Waiting given number request (result.Chunk chunk) e kind =
      (tt, others_none number (chunk_request split) (one_passes (has_number number) (chunk_request split) request e).0, omega arith, (λ w. absurd (w refl)))
  reader_takes_asked split state.Waiting given number request (result.Size size) e kind =
      let no : false ≡ true = subst (λ (r : IoRequest). IsTrue (is_of_kind {C = C} r.target (result.Size size))) (sym (one_passes (has_number number) (chunk_request split) request e).1) kind in
      absurd (cc)

  reader_takes_orderly : (old : ReaderState) (number : IoRequestId) (request : IoRequest) (outcome : IoResult C) (new : ReaderState) → Unit {0}
      → filter (has_number number) (reader_asked old) ≡ request ∷ [] → IsTrue (is_of_kind request.target outcome) → ReaderTakes means old number outcome new
      → Unit {0} × (reader_asked new ≡ filter (is_other number) (reader_asked old)) × (reader_work new ≤ reader_work old) × (reader_state old ≢ state.Waiting → reader_state new ≢ state.Waiting)
  reader_takes_orderly old number request outcome new orderly e kind takes = rw takes (reader_takes_asked old.split old.shown old.given number request outcome e kind)

  reader_memory : (it : ReaderState) (content : Content C) (failure : IoError) → Unit {0} → is_want failure ≡ true → reader_permits means it content failure
  reader_memory it content error.Fault orderly e = absurd (cc)
  reader_memory it content error.OutOfMemory orderly e = tt

  reader_fails : (old : ReaderState) (failure : IoError) (new : ReaderState) → Unit {0} → ReaderComputes old (Err failure) new → (content : Content C) → reader_permits means old content failure
  reader_fails old error.Fault new orderly c content = rw (c.0, c.1) refl
  reader_fails old error.OutOfMemory new orderly c content = tt

  reader_permits_less : (old : ReaderState) (output : MorselOutput) (new : ReaderState) (content : Content C) (failure : IoError) → Unit {0} → ReaderComputes old (Ok output) new → reader_permits means new content failure → reader_permits means old content failure
  reader_permits_less old output new content error.OutOfMemory orderly c permits = tt
  reader_permits_less old morsel.Done new content error.Fault orderly c permits = absurd c
  reader_permits_less old morsel.Continue new content error.Fault orderly c permits = absurd c
  reader_permits_less old (morsel.NeedsIO batch) new content error.Fault orderly c permits = rw (c.0, c.1) (rw c.3 at permits)
  reader_permits_less old (morsel.Batch array) new content error.Fault orderly c permits = absurd (let none : None ≡ Some 0 = rw c.4 at permits in cc)

  reader_permits_given : (old : ReaderState) (number : IoRequestId) (request : IoRequest) (outcome : IoResult C) (new : ReaderState) (content : Content C) (failure : IoError) → Unit {0}
      → filter (has_number number) (reader_asked old) ≡ request ∷ [] → Agrees means content request.target outcome → ReaderTakes means old number outcome new → reader_permits means new content failure → reader_permits means old content failure
  reader_permits_given old number request outcome new content error.OutOfMemory orderly e agrees takes permits = tt
  reader_permits_given old number request outcome new content error.Fault orderly e agrees takes permits =
      let a : Agrees means content (first_chunk old.split) outcome = subst (λ (r : IoRequest). Agrees means content r.target outcome) (sym (asked_is old.split old.shown (has_number number) request e)) agrees in
      let left : number_left means (handed means old.shown old outcome) content ≡ Some 0 = rw takes at permits in
      sym (left_given content old.split old.shown old.given outcome a) ∙ left

  pub reader_is_orderly : MorselIsOrderly means (ReaderTakes means) reader_state ReaderComputes (λ _. Unit {0}) reader_asked reader_work is_want (reader_permits means)
  reader_is_orderly = record {
    some_work = λ it orderly. some_work_at it.shown it.given;
    waits = λ it orderly. reader_waits it;
    goes_on = reader_goes_on;
    delivers = reader_takes_orderly;
    memory = reader_memory;
    fails = reader_fails;
    permits_less = reader_permits_less;
    permits_given = reader_permits_given;
  }

  fresh_given : (split : ℕ) (shown : State) (given : Option ℕ) (outcome : IoResult C) → let old : ReaderState = record { split = split; shown = shown; given = given } in is_fresh (handed means shown old outcome) ≡ is_fresh old
  fresh_given split state.Done given outcome = refl
  fresh_given split state.NeedsCompute given outcome = refl
  fresh_given split state.Waiting given (result.Chunk chunk) = refl
  fresh_given split state.Waiting given (result.Size size) = refl

  reader_spends : (told : Option (Content C)) (old : ReaderState) (answer : Result MorselOutput IoError) (new : ReaderState) → ReaderComputes old answer new → IsSpent (reader_plan old told) (answer_fetches answer) (reader_plan new told)
  reader_spends told old (Ok morsel.Done) new c test = absurd c
  reader_spends told old (Ok morsel.Continue) new c test = absurd c
  reader_spends told old (Ok (morsel.NeedsIO batch)) new c test = rw (c.3, c.2, c.0, c.1) (omega arith)
  reader_spends told old (Ok (morsel.Batch array)) new c test = rw (c.4, c.0, c.1) (omega arith)
  reader_spends told old (Err error.Fault) new c test = rw c.2 (omega arith)
  reader_spends told old (Err error.OutOfMemory) new c test = rw c (omega arith)

  reader_keeps_plan : (told : Option (Content C)) (old : ReaderState) (number : IoRequestId) (outcome : IoResult C) (new : ReaderState) → ReaderTakes means old number outcome new
      → DeliversAsTold means told (reader_names old number) outcome → IsSpent (reader_plan old told) [] (reader_plan new told)
  reader_keeps_plan told old number outcome new takes delivers test = rw (takes, fresh_given old.split old.shown old.given outcome, split_given old.shown old outcome) (omega arith)

  reader_stays_fresh : (old : ReaderState) (answer : Result MorselOutput IoError) (new : ReaderState) → ReaderComputes old answer new → is_fresh old ≡ true → answer_fetches answer ≡ [] → is_fresh new ≡ true
  reader_stays_fresh old (Ok morsel.Done) new c fresh none = absurd c
  reader_stays_fresh old (Ok morsel.Continue) new c fresh none = absurd c
  reader_stays_fresh old (Ok (morsel.NeedsIO batch)) new c fresh none = absurd (let some : first_chunk old.split ∷ [] ≡ [] = rw c.2 at none in cc)
  reader_stays_fresh old (Ok (morsel.Batch array)) new c fresh none = absurd (let no : false ≡ true = rw (c.0, c.1) at fresh in cc)
  reader_stays_fresh old (Err error.Fault) new c fresh none = rw c.2 fresh
  reader_stays_fresh old (Err error.OutOfMemory) new c fresh none = rw c fresh

  pub reader_follows_plan : MorselFollowsPlan means (ReaderTakes means) reader_names reader_state ReaderComputes reader_plan is_fresh has_no_columns
  reader_follows_plan = record {
    spends = reader_spends;
    delivers = reader_keeps_plan;
    stays_fresh = reader_stays_fresh;
    given_fresh = λ old number outcome new takes fresh. rw (takes, fresh_given old.split old.shown old.given outcome) fresh;
    acts = λ it fresh. fresh_computes it.shown it.given fresh;
    not_done = λ old new c. absurd c;
    gives = λ old array new c. rw c.3 refl;
  }
