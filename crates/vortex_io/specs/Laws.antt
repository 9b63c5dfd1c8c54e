-- What callers of sources need of the definitions.
use Rattle.std.specs.Prelude.{◌≡◌, ◌≢◌, ℕ, ◌+◌, ◌≤◌, ◌⊎◌, Bool, true, Option, List, [], ◌∷◌, ◌++◌, All, length}
use Rattle.vortex_buffer.specs.Counts.{Rose}
use Rattle.vortex_io.specs.declared.ids.IoOwnerId.{IoOwnerId}
use Rattle.vortex_io.specs.declared.ids.IoRequestId.{IoRequestId}
use Rattle.vortex_io.specs.declared.request.Completion.{Completion}
use Rattle.vortex_io.specs.declared.request.Fetch.{Fetch}
use Rattle.vortex_io.specs.declared.request.IoRequest.{IoRequest}
use Rattle.vortex_io.specs.declared.request.IoTarget.{IoTarget}
use Rattle.vortex_io.specs.Source.{Answers, Completes, Content, IsHonest, Taken, fetches, targets_at, without_owner}

-- what is honest over a call is honest at each of its parts
abbrev pub HonestInParts : Type 0
HonestInParts = (before between now : ℕ) → before ≤ between → between ≤ now → IsHonest before now → IsHonest before between × IsHonest between now

-- a count that rose in a part of a call, or stood at its last number there, did so in the call
abbrev pub RoseInWhole : Type 0
RoseInWhole = (before between now : ℕ) → before ≤ between → between ≤ now → Rose before between ⊎ Rose between now → Rose before now

-- an honest completion takes one outstanding fetch of its owner and number, and answers its target
abbrev pub HonestAnswers : {C M : Type 0} → (C → M) → Type 0
HonestAnswers {C} means = (told : Option (Content C)) (old new : List Fetch) (before now : ℕ) (completion : Completion C) → IsHonest before now → Completes means told old new before now completion
    → (entry : Fetch) × Taken completion.owner completion.request old new entry × Answers means told entry.target completion.result

-- one fewer is outstanding once one was taken
abbrev pub OneFewer : Type 0
OneFewer = (owner : IoOwnerId) (request : IoRequestId) (old new : List Fetch) (entry : Fetch) → Taken owner request old new entry → length new + 1 ≡ length old

-- what holds of all outstanding fetches holds of the one that was taken, and of the others
abbrev pub HoldsOfTaken : Type 0
HoldsOfTaken = (test : Fetch → Bool) (owner : IoOwnerId) (request : IoRequestId) (old new : List Fetch) (entry : Fetch) → Taken owner request old new entry → All (λ fetch. test fetch ≡ true) old
    → (test entry ≡ true) × All (λ fetch. test fetch ≡ true) new

-- targets of a number: those behind stand behind
abbrev pub TargetsAdded : Type 0
TargetsAdded = (owner : IoOwnerId) (request : IoRequestId) (outstanding added : List Fetch) → targets_at owner request (outstanding ++ added) ≡ targets_at owner request outstanding ++ targets_at owner request added

-- none come from another owner's batch
abbrev pub TargetsOfOthers : Type 0
TargetsOfOthers = (owner other : IoOwnerId) (request : IoRequestId) (batch : List IoRequest) → owner.0 ≢ other.0 → targets_at owner request (fetches other batch) ≡ []

-- a list less one of its targets
abbrev pub IsLess : IoTarget → List IoTarget → List IoTarget → Type 0
IsLess target old new = (before : List IoTarget) × (behind : List IoTarget) × (old ≡ before ++ target ∷ behind) × (new ≡ before ++ behind)

-- a fetch that is taken takes its target from its number
abbrev pub TargetsTaken : Type 0
TargetsTaken = (owner : IoOwnerId) (request : IoRequestId) (old new : List Fetch) (entry : Fetch) → Taken owner request old new entry → IsLess entry.target (targets_at owner request old) (targets_at owner request new)

-- and leaves those of every other number
abbrev pub TargetsStay : Type 0
TargetsStay = (owner other : IoOwnerId) (request number : IoRequestId) (old new : List Fetch) (entry : Fetch) → Taken owner request old new entry → (other.0 ≢ owner.0) ⊎ (number.0 ≢ request.0) → targets_at other number new ≡ targets_at other number old

-- what an owner gives up takes all its targets
abbrev pub TargetsReleased : Type 0
TargetsReleased = (owner : IoOwnerId) (request : IoRequestId) (outstanding : List Fetch) → targets_at owner request (without_owner owner outstanding) ≡ []

-- and leaves those of the others
abbrev pub TargetsKept : Type 0
TargetsKept = (owner other : IoOwnerId) (request : IoRequestId) (outstanding : List Fetch) → other.0 ≢ owner.0 → targets_at other request (without_owner owner outstanding) ≡ targets_at other request outstanding
