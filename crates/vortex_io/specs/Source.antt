use Rattle.std.specs.Prelude.{◌≡◌, ℕ, ◌<◌, ◌==◌, ◌⊎◌, Bool, true, false, not, ◌&&◌, IsTrue, IsSome, Option, Some, is_some, List, ◌∷◌, ◌++◌, length, map, filter, slice_get}
use Rattle.std.specs.Option.{option_map, option_and_then}
use Rattle.std.specs.List.{list_any}
use Rattle.vortex_buffer.specs.Counts.{Rose}
use Rattle.vortex_io.specs.declared.ids.IoOwnerId.{IoOwnerId}
use Rattle.vortex_io.specs.declared.ids.IoRequestId.{IoRequestId}
use Rattle.vortex_io.specs.declared.request.IoIntent.{IoIntent}
use Rattle.vortex_io.specs.declared.request.IoIntent.TheVariants as intent
use Rattle.vortex_io.specs.declared.request.IoTarget.{IoTarget}
use Rattle.vortex_io.specs.declared.request.IoTarget.TheVariants as target
use Rattle.vortex_io.specs.declared.request.IoRequest.{IoRequest}
use Rattle.vortex_io.specs.declared.request.Fetch.{Fetch}
use Rattle.vortex_io.specs.declared.request.IoResult.{IoResult}
use Rattle.vortex_io.specs.declared.request.IoResult.TheVariants as result
use Rattle.vortex_io.specs.declared.request.Completion.{Completion}
use Rattle.vortex_io.specs.declared.request.JournalEntry.{JournalEntry}
use Rattle.vortex_io.specs.declared.request.JournalEntry.TheVariants.{Submitted}

-- whether a completion is owed
abbrev pub is_owed : IoIntent → Bool
is_owed intent.Fetch = true
is_owed intent.Prefetch = false
is_owed intent.Announce = false

-- whether a request is a fetch
abbrev pub is_fetch : IoRequest → Bool
is_fetch request = is_owed request.intent

-- a request, as a fetch of its owner
abbrev pub fetch_of : IoOwnerId → IoRequest → Fetch
fetch_of owner request = record { owner = owner; request = request.request; target = request.target }

-- the fetches of an owner's batch, in order
abbrev pub fetches : IoOwnerId → List IoRequest → List Fetch
fetches owner batch = map (fetch_of owner) (filter is_fetch batch)

-- what a journal gets of an owner's batch: each of its requests
abbrev pub submissions : IoOwnerId → List IoRequest → List JournalEntry
submissions owner batch = map (λ request. Submitted owner request) batch

-- a journal with further entries, where it is told
abbrev pub grown : Option (List JournalEntry) → List JournalEntry → Option (List JournalEntry)
grown told entries = option_map (λ journal. journal ++ entries) told

-- whether a fetch is of this owner and has this number
abbrev pub is_named : IoOwnerId → IoRequestId → Fetch → Bool
is_named owner request fetch = (fetch.owner.0 == owner.0) && (fetch.request.0 == request.0)

-- one entry of that owner and number left the list, in which the others stay as they stood
pub record Taken (owner : IoOwnerId) (request : IoRequestId) (old new : List Fetch) (entry : Fetch) : Type 0 where
  pub before : List Fetch
  pub behind : List Fetch
  pub stood : old ≡ before ++ entry ∷ behind
  pub left : new ≡ before ++ behind
  pub whose : entry.owner ≡ owner
  pub number : entry.request ≡ request

-- the targets of all fetches of that owner and number
abbrev pub targets_at : IoOwnerId → IoRequestId → List Fetch → List IoTarget
targets_at owner request outstanding = map (λ (fetch : Fetch). fetch.target) (filter (is_named owner request) outstanding)

-- whether a fetch is another owner's
abbrev pub is_of_others : IoOwnerId → Fetch → Bool
is_of_others owner fetch = not (fetch.owner.0 == owner.0)

-- the list without that owner's fetches
abbrev pub without_owner : IoOwnerId → List Fetch → List Fetch
without_owner owner outstanding = filter (is_of_others owner) outstanding

-- by split, by column, a payload that stands for what the chunk there stands for
abbrev pub Content : Type 0 → Type 0
Content C = List (List C)

-- the chunk at a place, where there is one
abbrev pub chunk_at : {C : Type 0} → Content C → ℕ → ℕ → Option C
chunk_at content split column = option_and_then (λ columns. slice_get columns column) (slice_get content split)

-- whether the content has a target: each chunk that it holds, and always its size
abbrev pub has_target : {C : Type 0} → Content C → IoTarget → Bool
has_target content (target.Chunk split column) = is_some (chunk_at content split column)
has_target content target.Size = true

-- whether a request is a fetch of a chunk that the content lacks
abbrev pub is_outside : {C : Type 0} → Content C → IoRequest → Bool
is_outside content request = is_fetch request && not (has_target content request.target)

-- whether a result is of a target's kind: a chunk for a chunk, a number for the size
abbrev pub is_of_kind : {C : Type 0} → IoTarget → IoResult C → Bool
is_of_kind (target.Chunk split column) (result.Chunk chunk) = true
is_of_kind (target.Chunk split column) (result.Size size) = false
is_of_kind target.Size (result.Chunk chunk) = false
is_of_kind target.Size (result.Size size) = true

-- a result is what the content has at the target: a chunk that stands for the same, or the number of splits
abbrev pub Agrees : {C M : Type 0} → (C → M) → Content C → IoTarget → IoResult C → Type 0
Agrees means content (target.Chunk split column) (result.Chunk chunk) = option_map means (chunk_at content split column) ≡ Some (means chunk)
Agrees means content (target.Chunk split column) (result.Size size) = ⊥
Agrees means content target.Size (result.Chunk chunk) = ⊥
Agrees means content target.Size (result.Size size) = size ≡ length content

-- a result answers a target: it is of its kind, and what the content has there, where that is told
pub record Answers {C M : Type 0} (means : C → M) (told : Option (Content C)) (target : IoTarget) (result : IoResult C) : Type 0 where
  pub kind : IsTrue (is_of_kind target result)
  pub agrees : (content : Content C) → told ≡ Some content → Agrees means content target result

-- a source is honest in a call: its count of lies neither rose nor stands at its last number
abbrev pub IsHonest : ℕ → ℕ → Type 0
IsHonest before now = ¬ (Rose before now)

-- a completion takes an outstanding fetch of its owner and number, and answers its target where the source is honest
pub record TakesOne {C M : Type 0} (means : C → M) (told : Option (Content C)) (old new : List Fetch) (before now : ℕ) (completion : Completion C) : Type 0 where
  pub entry : Fetch
  pub taken : Taken completion.owner completion.request old new entry
  pub answers : IsHonest before now → Answers means told entry.target completion.result

-- no outstanding fetch is of a completion's owner and number, so none is taken, and the lie is counted
pub record TakesNone {C : Type 0} (old new : List Fetch) (before now : ℕ) (completion : Completion C) : Type 0 where
  pub none : list_any (is_named completion.owner completion.request) old ≡ false
  pub same : new ≡ old
  pub counted : Rose before now

-- what a completion is to the outstanding fetches, the told content and the count of lies
abbrev pub Completes : {C M : Type 0} → (C → M) → Option (Content C) → List Fetch → List Fetch → ℕ → ℕ → Completion C → Type 0
Completes means told old new before now completion = TakesOne means told old new before now completion ⊎ TakesNone old new before now completion

-- where a sure source tells its content, its faults rise only where a batch has a fetch of a chunk that the content lacks
abbrev pub FaultsOutside : {C : Type 0} → Bool → Option (Content C) → List IoRequest → ℕ → ℕ → Type 0
FaultsOutside {C} sure told batch before now = IsTrue sure → (content : Content C) → told ≡ Some content → before < now → IsTrue (list_any (is_outside content) batch)

-- where a sure source tells its content, its faults stay
abbrev pub FaultsNowhere : {C : Type 0} → Bool → Option (Content C) → ℕ → ℕ → Type 0
FaultsNowhere sure told before now = IsTrue sure → IsSome told → now ≡ before
