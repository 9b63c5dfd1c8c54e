-- What contracts see of a source that lies at listed calls, and what each of its calls does.
use Rattle.std.specs.Prelude.{◌≡◌, ℕ, ◌≤◌, ◌==◌, ◌⊎◌, cond, MatchOption, Option, None, Some, Result, Ok, Err, List, [], ◌∷◌, ◌++◌, filter, find, length}
use Rattle.std.specs.Option.{option_map}
use Rattle.vortex_buffer.specs.Counts.{one_more}
use Rattle.vortex_io.specs.declared.ids.IoOwnerId.{IoOwnerId}
use Rattle.vortex_io.specs.declared.ids.IoRequestId.{IoRequestId}
use Rattle.vortex_io.specs.declared.lying.Lie.{Lie}
use Rattle.vortex_io.specs.declared.request.Completion.{Completion}
use Rattle.vortex_io.specs.declared.request.Fetch.{Fetch}
use Rattle.vortex_io.specs.declared.request.IoError.{IoError}
use Rattle.vortex_io.specs.declared.request.IoError.TheVariants.{Fault, OutOfMemory}
use Rattle.vortex_io.specs.declared.request.IoRequest.{IoRequest}
use Rattle.vortex_io.specs.declared.request.IoResult.{IoResult}
use Rattle.vortex_io.specs.declared.request.IoResult.TheVariants as result
use Rattle.vortex_io.specs.Source.{fetches, is_named}

-- the source inside, the lies, the number of the next poll or wait, how often a completion was answered, and what is outstanding
pub record LyingState (S C : Type 0) : Type 0 where
  pub inner : S
  pub lies : List (Lie C)
  pub calls : ℕ
  pub own : ℕ
  pub outstanding : List Fetch

-- of each owner and number, as many fetches as are outstanding here, or more, are outstanding at the source inside
abbrev pub AreCovered : List Fetch → List Fetch → Type 0
AreCovered inner outstanding = (owner : IoOwnerId) (request : IoRequestId) → length (filter (is_named owner request) outstanding) ≤ length (filter (is_named owner request) inner)

-- the completion that is given at a call, if it is listed: the first that names it
abbrev pub lie_at : {C : Type 0} → List (Lie C) → ℕ → Option (Completion C)
lie_at {C} lies call = option_map (λ (lie : Lie C). lie.completion) (find (λ (lie : Lie C). lie.call == call) lies)

-- the list without the first fetch of that owner and number, if there is one
abbrev pub without : IoOwnerId → IoRequestId → List Fetch → List Fetch
without owner request [] = []
without owner request (fetch ∷ rest) = cond (is_named owner request fetch) rest (fetch ∷ without owner request rest)

-- a result stands for the same: a chunk that means the same, or the same number
abbrev pub SameResult : {C M : Type 0} → (C → M) → IoResult C → IoResult C → Type 0
SameResult means (result.Chunk told) (result.Chunk given) = means given ≡ means told
SameResult means (result.Chunk told) (result.Size size) = ⊥
SameResult means (result.Size told) (result.Chunk given) = ⊥
SameResult means (result.Size told) (result.Size size) = size ≡ told

-- a completion stands for the same
pub record SameCompletion {C M : Type 0} (means : C → M) (told given : Completion C) : Type 0 where
  pub owner : given.owner ≡ told.owner
  pub request : given.request ≡ told.request
  pub stands : SameResult means told.result given.result

-- a completion is given exactly where one is listed, and stands for the same
abbrev pub IsCopied : {C M : Type 0} → (C → M) → Option (Completion C) → Option (Completion C) → Type 0
IsCopied means None None = Unit {0}
IsCopied means None (Some given) = ⊥
IsCopied means (Some lie) None = ⊥
IsCopied means (Some lie) (Some given) = SameCompletion means lie given

-- a source after a call that left this source inside
abbrev pub called : {S C : Type 0} → S → LyingState S C → LyingState S C
called inner s = record s { inner = inner; calls = one_more s.calls }

-- and that answered this completion, which is counted
abbrev pub answered : {S C : Type 0} → S → Completion C → LyingState S C → LyingState S C
answered inner completion s = record s { inner = inner; calls = one_more s.calls; own = one_more s.own; outstanding = without completion.owner completion.request s.outstanding }

-- a submission is the source's inside, whose fetches stand here too where it takes them; or memory is wanted and nothing changes
abbrev pub SubmitsLying : {S C : Type 0} → (S → Result (Unit {0}) IoError → S → Type 0) → LyingState S C → IoOwnerId → List IoRequest → Result (Unit {0}) IoError → LyingState S C → Type 0
SubmitsLying call old owner batch (Ok done) new = (call old.inner (Ok done) new.inner) × (new ≡ record old { inner = new.inner; outstanding = old.outstanding ++ fetches owner batch })
SubmitsLying call old owner batch (Err Fault) new = (call old.inner (Err Fault) new.inner) × (new ≡ record old { inner = new.inner })
SubmitsLying call old owner batch (Err OutOfMemory) new = (new ≡ old) ⊎ ((call old.inner (Err OutOfMemory) new.inner) × (new ≡ record old { inner = new.inner }))

-- what a poll leaves, by its answer
abbrev pub after_poll : {S C : Type 0} → S → Result (Option (Completion C)) IoError → LyingState S C → LyingState S C
after_poll inner (Ok (Some completion)) s = answered inner completion s
after_poll inner (Ok None) s = called inner s
after_poll inner (Err error) s = called inner s

-- what a wait leaves, by its answer
abbrev pub after_wait : {S C : Type 0} → S → Result (Completion C) IoError → LyingState S C → LyingState S C
after_wait inner (Ok completion) s = answered inner completion s
after_wait inner (Err error) s = called inner s

-- a wait gives a completion that stands for the same as this one, or memory is wanted
abbrev pub GivesLie : {C M : Type 0} → (C → M) → Completion C → Result (Completion C) IoError → Type 0
GivesLie means lie (Ok completion) = SameCompletion means lie completion
GivesLie means lie (Err Fault) = ⊥
GivesLie means lie (Err OutOfMemory) = Unit {0}

-- and a poll
abbrev pub PollGivesLie : {C M : Type 0} → (C → M) → Completion C → Result (Option (Completion C)) IoError → Type 0
PollGivesLie means lie (Ok (Some completion)) = SameCompletion means lie completion
PollGivesLie means lie (Ok None) = ⊥
PollGivesLie means lie (Err Fault) = ⊥
PollGivesLie means lie (Err OutOfMemory) = Unit {0}

-- a listed poll gives its completion and leaves the source inside; any other is that source's
pub record PollsLying {S C M : Type 0} (means : C → M) (call : S → Result (Option (Completion C)) IoError → S → Type 0) (old : LyingState S C) (result : Result (Option (Completion C)) IoError) (new : LyingState S C) : Type 0 where
  pub left : new ≡ after_poll new.inner result old
  pub given : MatchOption (lie_at old.lies old.calls) (call old.inner result new.inner) (λ lie. (new.inner ≡ old.inner) × PollGivesLie means lie result)

-- a listed wait gives its completion and leaves the source inside; any other is that source's
pub record WaitsLying {S C M : Type 0} (means : C → M) (call : S → Result (Completion C) IoError → S → Type 0) (old : LyingState S C) (result : Result (Completion C) IoError) (new : LyingState S C) : Type 0 where
  pub left : new ≡ after_wait new.inner result old
  pub given : MatchOption (lie_at old.lies old.calls) (call old.inner result new.inner) (λ lie. (new.inner ≡ old.inner) × GivesLie means lie result)
