-- A run of several roots, taken forward: what is kept of its seats and journals from one call to a later one, beside what every driver keeps.
use Rattle.std.specs.Prelude.{◌≡◌, ◌<◌, ◌⊎◌, Bool, true, false, None, List, [], ◌∷◌}
use Rattle.std.specs.List.{AllByRecursion, list_any}
use Rattle.vortex_array.specs.Batch.{BatchParts}
use Rattle.vortex_io.specs.declared.request.JournalEntry.{JournalEntry}
use Rattle.vortex_io.specs.declared.source.IoSource.{Ghosts}
use Rattle.vortex_scan.specs.RunState.{Live, RunState}
use Rattle.vortex_scan.specs.Seats.{Adds, IsFetched, IsLess, IsOfSeat, Seat, Seating, SomeByRecursion, SurelyStands, fetched_in, is_wait, seats, targets_of}
use Rattle.vortex_scan.specs.Driving.{VisitsMore}
use Rattle.vortex_scan.specs.Plans.{IsSpent}
use Rattle.vortex_scan.specs.Visits.{asked_count}
use Rattle.vortex_scan_types.specs.declared.batch.Batch.{Batch}
use Rattle.vortex_scan_types.specs.declared.place.RootId.{RootId}
use Rattle.vortex_table_scan.specs.Journals.{before_wait}
use Rattle.vortex_table_scan.specs.declared.rounds.Round.{Round}
use Rattle.vortex_table_scan.specs.declared.rounds.Round.TheVariants as round

-- the batches that a round gives
abbrev pub given_by : Round → List Batch
given_by round.Waited = []
given_by (round.Gave batch) = batch ∷ []
given_by round.Ended = []
given_by round.Over = []

-- whether all items waited
abbrev pub is_waiting : Round → Bool
is_waiting round.Waited = true
is_waiting (round.Gave batch) = false
is_waiting round.Ended = false
is_waiting round.Over = false

-- whether nothing is live
abbrev pub is_over : Round → Bool
is_over round.Waited = false
is_over (round.Gave batch) = false
is_over round.Ended = false
is_over round.Over = true

-- a fresh seat is fresh still, where nothing was waited for; or one of its targets over none was fetched before the first wait
abbrev pub IsEarly : List Seat → List JournalEntry → Seat → Type 0
IsEarly now added seat = seat.fresh ≡ true → ((list_any is_wait added ≡ false) × SomeByRecursion (λ later. IsLess seat later × (later.fresh ≡ true)) now) ⊎ IsFetched seat.over_none (fetched_in (before_wait added))

-- over calls that are not refused, with the batches given in them: each seat over none is an earlier one; each batch has an earlier seat, and is as the morsels' type says;
-- what was fetched has left the seats; each fresh seat was fetched for before the first wait; and a sure source that has all of its root's targets does not fail
pub record KeepsPlaces {W S C : Type 0} (source : Ghosts S C) (seating : Seating W C) (gives_such : BatchParts → Bool) (given : List Batch) (old new : Live W S) : Type 0 where
  pub kept : (root : RootId) → AllByRecursion (λ seat. SomeByRecursion (λ was. IsLess was seat) (seats seating root None old.items)) (seats seating root None new.items)
  pub placed : AllByRecursion (λ (batch : Batch). SomeByRecursion (IsOfSeat batch) (seats seating batch.root None old.items) × (gives_such batch.array ≡ true)) given
  pub spent : (root : RootId) (added : List JournalEntry) → Adds source root added old.slots new.slots → IsSpent (targets_of (seats seating root None old.items)) (fetched_in added) (targets_of (seats seating root None new.items))
  pub early : (root : RootId) (added : List JournalEntry) → Adds source root added old.slots new.slots → AllByRecursion (IsEarly (seats seating root None new.items) added) (seats seating root None old.items)
  pub sure : SurelyStands source seating old new.slots

-- over calls of which the last is refused: nothing is fetched oftener than the seats had it, each fresh seat was fetched for before a wait, and a sure source that has
-- all of its root's targets does not fail
pub record LeavesPlaces {W S C : Type 0} (source : Ghosts S C) (seating : Seating W C) (old new : Live W S) : Type 0 where
  pub spent : (root : RootId) (added : List JournalEntry) → Adds source root added old.slots new.slots → IsSpent (targets_of (seats seating root None old.items)) (fetched_in added) []
  pub early : (root : RootId) (added : List JournalEntry) → Adds source root added old.slots new.slots → list_any is_wait added ≡ true
      → AllByRecursion (λ seat. seat.fresh ≡ true → IsFetched seat.over_none (fetched_in (before_wait added))) (seats seating root None old.items)
  pub sure : SurelyStands source seating old new.slots

-- a round that is not the last makes a visit; or all items waited, and something is delivered
abbrev pub GoesOn : {W S : Type 0} → Round → RunState W S → RunState W S → Type 0
GoesOn round.Waited old new = VisitsMore old new ⊎ ((new.visits ≡ old.visits) × (asked_count new.live.items < asked_count old.live.items))
GoesOn (round.Gave batch) old new = VisitsMore old new
GoesOn round.Ended old new = VisitsMore old new
GoesOn round.Over old new = Unit {0}
