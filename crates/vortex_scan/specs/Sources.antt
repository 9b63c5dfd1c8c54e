-- What each call does to a source, in the words of its trait.
use Rattle.std.specs.Prelude.{◌≡◌, ◌≤◌, true, false, Option, None, Result, Ok, List, [], ◌∷◌, ◌++◌, MatchResult, MatchOption, IfErr}
use Rattle.std.specs.List.{AllZip}
use Rattle.vortex_buffer.specs.Counts.{Faulted, Rose}
use Rattle.vortex_io.specs.Source.{Completes, FaultsNowhere, FaultsOutside, fetches, grown, submissions, without_owner}
use Rattle.vortex_io.specs.declared.ids.IoOwnerId.{IoOwnerId}
use Rattle.vortex_io.specs.declared.payload.Payload.{Ghosts as Meanings}
use Rattle.vortex_io.specs.declared.request.Completion.{Completion}
use Rattle.vortex_io.specs.declared.request.IoError.{IoError}
use Rattle.vortex_io.specs.declared.request.IoError.TheVariants as error
use Rattle.vortex_io.specs.declared.request.IoRequest.{IoRequest}
use Rattle.vortex_io.specs.declared.request.JournalEntry.{JournalEntry}
use Rattle.vortex_io.specs.declared.request.JournalEntry.TheVariants.{Waited}
use Rattle.vortex_io.specs.declared.source.IoSource.{Ghosts}
use Rattle.vortex_scan.specs.declared.item.Slot.{Slot}

-- what every call keeps: the content, what is sure, and counts and a journal that only grow
pub record Keeps {S C : Type 0} (source : Ghosts S C) (old new : S) : Type 0 where
  pub content : source.content new ≡ source.content old
  pub sure : source.sure new ≡ source.sure old
  pub faults : source.faults old ≤ source.faults new
  pub lies : source.lies old ≤ source.lies new
  pub quiet : source.quiet old ≤ source.quiet new
  pub added : List JournalEntry
  pub journal : source.journal new ≡ grown (source.journal old) added

-- a batch of an owner was submitted, or refused
pub record Submits {S C : Type 0} (source : Ghosts S C) (owner : IoOwnerId) (batch : List IoRequest) (result : Result (Unit {0}) IoError) (old new : S) : Type 0 where
  pub keeps : Keeps source old new
  pub accounts : MatchResult result (λ _. source.outstanding new ≡ source.outstanding old ++ fetches owner batch) (λ _. source.outstanding new ≡ source.outstanding old)
  pub journal : MatchResult result (λ _. source.journal new ≡ grown (source.journal old) (submissions owner batch)) (λ _. source.journal new ≡ source.journal old)
  pub fault : IfErr result (λ cause. cause ≡ error.Fault → Faulted (source.faults old) (source.faults new))
  pub stale : MatchResult result (λ _. source.stale new ≡ true) (λ _. source.stale new ≡ source.stale old)
  pub surely : FaultsOutside (source.sure old) (source.content old) batch (source.faults old) (source.faults new)
  pub submits : source.submits old owner batch result new

-- a source was polled
pub record Polls {S C : Type 0} (source : Ghosts S C) (payload : Meanings C) (result : Result (Option (Completion C)) IoError) (old new : S) : Type 0 where
  pub keeps : Keeps source old new
  pub accounts : MatchResult result
      (λ answer. MatchOption answer (source.outstanding new ≡ source.outstanding old)
      (λ completion. Completes payload.means (source.content old) (source.outstanding old) (source.outstanding new) (source.lies old) (source.lies new) completion))
      (λ _. source.outstanding new ≡ source.outstanding old)
  pub journal : source.journal new ≡ source.journal old
  pub fault : IfErr result (λ cause. cause ≡ error.Fault → Faulted (source.faults old) (source.faults new))
  pub none : result ≡ Ok None → Rose (source.quiet old) (source.quiet new)
  pub stale : MatchResult result (λ answer. MatchOption answer (source.stale new ≡ false) (λ _. source.stale new ≡ source.stale old)) (λ _. source.stale new ≡ source.stale old)
  pub surely : FaultsNowhere (source.sure old) (source.content old) (source.faults old) (source.faults new)
  pub polls : source.polls old result new

-- a source was waited for
pub record Waits {S C : Type 0} (source : Ghosts S C) (payload : Meanings C) (result : Result (Completion C) IoError) (old new : S) : Type 0 where
  pub keeps : Keeps source old new
  pub accounts : MatchResult result
      (λ completion. Completes payload.means (source.content old) (source.outstanding old) (source.outstanding new) (source.lies old) (source.lies new) completion)
      (λ _. source.outstanding new ≡ source.outstanding old)
  pub journal : MatchResult result (λ _. source.journal new ≡ grown (source.journal old) (Waited ∷ [])) (λ _. source.journal new ≡ source.journal old)
  pub fault : IfErr result (λ cause. cause ≡ error.Fault → Faulted (source.faults old) (source.faults new))
  pub stale : source.stale new ≡ source.stale old
  pub surely : FaultsNowhere (source.sure old) (source.content old) (source.faults old) (source.faults new)
  pub waits : source.waits old result new

-- an owner's fetches were given up
pub record Releases {S C : Type 0} (source : Ghosts S C) (owner : IoOwnerId) (old new : S) : Type 0 where
  pub keeps : Keeps source old new
  pub accounts : source.outstanding new ≡ without_owner owner (source.outstanding old)
  pub journal : source.journal new ≡ source.journal old
  pub stale : source.stale new ≡ source.stale old
  pub surely : FaultsNowhere (source.sure old) (source.content old) (source.faults old) (source.faults new)
  pub releases : source.releases old owner new

-- all fetches were given up
pub record Clears {S C : Type 0} (source : Ghosts S C) (old new : S) : Type 0 where
  pub keeps : Keeps source old new
  pub accounts : source.outstanding new ≡ []
  pub journal : source.journal new ≡ source.journal old
  pub stale : source.stale new ≡ source.stale old
  pub surely : FaultsNowhere (source.sure old) (source.content old) (source.faults old) (source.faults new)
  pub clears : source.clears old new

-- a slot whose source is kept, and whose root does not become live again
pub record KeepsSlot {S C : Type 0} (source : Ghosts S C) (old new : Slot S) : Type 0 where
  pub keeps : Keeps source old.source new.source
  pub ends : new.live ≡ true → old.live ≡ true

-- each source is kept, in its place
abbrev pub KeepsEach : {S C : Type 0} → Ghosts S C → List (Slot S) → List (Slot S) → Type 0
KeepsEach source old new = AllZip (KeepsSlot source) old new

-- each source is cleared and leaves, in its place
abbrev pub ClearsEach : {S C : Type 0} → Ghosts S C → List (Slot S) → List S → Type 0
ClearsEach {S} source old new = AllZip (λ (slot : Slot S) after. Clears source slot.source after) old new
