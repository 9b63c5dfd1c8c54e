-- What a whole run leaves of seats, journals and sure sources, whatever its answer.
use Rattle.std.proofs.Common.{◌≡◌, ◌∙◌, sym, ap, subst, List, [], ◌++◌, Bool, true, None}
use Rattle.std.specs.List.{AllByRecursion, list_any}
use Rattle.std.proofs.lemmas.List.{append-nil}
use Rattle.vortex_array.specs.Batch.{BatchParts}
use Rattle.vortex_io.specs.declared.source.IoSource.{Ghosts}
use Rattle.vortex_scan.specs.Bag.{Owing}
use Rattle.vortex_scan.specs.Plans.{IsSpent}
use Rattle.vortex_scan.specs.RunState.{Live, RunState}
use Rattle.vortex_scan.specs.Seats.{IsFetched, Seat, Seating, fetched_in, is_wait, seats, targets_of}
use Rattle.vortex_scan.specs.Sources.{KeepsEach}
use Rattle.vortex_scan.specs.declared.worker.Worker.{Ghosts as Works}
use Rattle.vortex_scan.proofs.Keeping.{slot_after, slots_at}
use Rattle.vortex_scan.proofs.Kept.{each_on}
use Rattle.vortex_scan_types.specs.declared.batch.Batch.{Batch}
use Rattle.vortex_scan_types.specs.declared.request.ScanRequest.{ScanRequest}
use Rattle.vortex_table_scan.specs.Journals.{before_wait}
use Rattle.vortex_table_scan.specs.Rounds.{LeavesPlaces}
use Rattle.vortex_table_scan.specs.Taking.{Cancels, Takes}
use Rattle.vortex_table_scan.proofs.Called.{kept_leaves}
use Rattle.vortex_table_scan.proofs.Placing.{adds_both}

module _ {W S C : Type 0} (source : Ghosts S C) (seating : Seating W C) where
  -- what is cancelled once calls left it
  pub leaves_cancels : (old between new : Live W S) → KeepsEach source old.slots between.slots → LeavesPlaces source seating old between → Cancels source between.slots new.slots → LeavesPlaces source seating old new
  leaves_cancels old between new keeps l c = record {
    spent = λ root added adds.
        let both = adds_both source root added old.slots between.slots new.slots keeps c.keeps adds in
        let none = c.journals root both.then both.adds_then in
        let same : both.first ≡ added = sym (both.both ∙ ap (λ list. both.first ++ list) none ∙ append-nil both.first) in
        subst (λ list. IsSpent (targets_of (seats seating root None old.items)) (fetched_in list) []) same (l.spent root both.first both.adds_first);
    early = λ root added adds waits.
        let both = adds_both source root added old.slots between.slots new.slots keeps c.keeps adds in
        let none = c.journals root both.then both.adds_then in
        let same : both.first ≡ added = sym (both.both ∙ ap (λ list. both.first ++ list) none ∙ append-nil both.first) in
        subst (λ list. AllByRecursion (λ (seat : Seat). seat.fresh ≡ true → IsFetched seat.over_none (fetched_in (before_wait list))) (seats seating root None old.items)) same
        (l.early root both.first both.adds_first (ap (λ list. list_any is_wait list) same ∙ waits));
    sure = λ root before after content there now sure told all.
        let mid = slot_after source old.slots between.slots root.0 before keeps there in
        let same = slots_at source old.slots between.slots root.0 before mid.0 keeps there mid.1 in
        c.sure root mid.0 after content mid.1 now (same.keeps.sure ∙ sure) (same.keeps.content ∙ told) ∙ l.sure root before mid.0 content there mid.1 sure told all;
  }

-- of a run that was taken as far as a request needs it
module _ {W S C E : Type 0} (works : Works W C E) (source : Ghosts S C) (owed : Owing W C) (seating : Seating W C) (gives_such : BatchParts → Bool) (request : ScanRequest) (batches : List Batch) (old new : RunState W S)
    (t : Takes works source owed (Unit {0}) (Unit {0}) seating gives_such request batches old new) where
  -- each source is kept
  pub takes_keeps : KeepsEach source old.live.slots new.live.slots
  takes_keeps = each_on source old.live.slots t.between.live.slots new.live.slots t.gathers.keeps.sources t.cancels.keeps

  pub takes_leaves : LeavesPlaces source seating old.live new.live
  takes_leaves = leaves_cancels source seating old.live t.between.live new.live t.gathers.keeps.sources (kept_leaves source seating gives_such t.gathers.given old.live t.between.live (t.gathers.places tt)) t.cancels
