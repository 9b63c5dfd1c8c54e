-- A round that is followed by others.
use Rattle.std.proofs.Common.{◌≡◌, [], Bool, true, false, arith, ⊎_elim}
use Rattle.std.specs.Prelude.{◌<◌}
use Rattle.vortex_array.specs.Batch.{BatchParts}
use Rattle.vortex_io.specs.declared.source.IoSource.{Ghosts}
use Rattle.vortex_scan.specs.Bag.{Owing}
use Rattle.vortex_scan.specs.Driving.{KeepsRun, VisitsMore}
use Rattle.vortex_scan.specs.RunState.{Live, RunState}
use Rattle.vortex_scan.specs.Seats.{Seating}
use Rattle.vortex_scan.specs.Sources.{KeepsEach}
use Rattle.vortex_scan.specs.Visits.{asked_count}
use Rattle.vortex_scan.specs.declared.worker.Worker.{Ghosts as Works}
use Rattle.vortex_scan.proofs.Driven.{keeps_then}
use Rattle.vortex_table_scan.specs.Rounds.{GoesOn, KeepsPlaces, given_by, is_over, is_waiting}
use Rattle.vortex_table_scan.specs.declared.rounds.Round.{Round}
use Rattle.vortex_table_scan.specs.declared.rounds.Round.TheVariants as round
use Rattle.vortex_table_scan.proofs.Placing.{places_then}

pub waited_keeps : {W S C E : Type 0} (works : Works W C E) (source : Ghosts S C) (owed : Owing W C) (tells : Type 0) (came : Round) (a b d : RunState W S) → KeepsRun works source owed tells [] a b
    → KeepsRun works source owed tells (given_by came) b d → is_waiting came ≡ true → KeepsRun works source owed tells [] a d
waited_keeps works source owed tells round.Waited a b d k l waits = keeps_then works source owed tells [] [] a b d k l
waited_keeps works source owed tells (round.Gave batch) a b d k l waits = absurd (cc)
waited_keeps works source owed tells round.Ended a b d k l waits = absurd (cc)
waited_keeps works source owed tells round.Over a b d k l waits = absurd (cc)

pub waited_places : {W S C : Type 0} (source : Ghosts S C) (seating : Seating W C) (gives_such : BatchParts → Bool) (came : Round) (a b d : Live W S) → KeepsEach source a.slots b.slots → KeepsEach source b.slots d.slots
    → KeepsPlaces source seating gives_such [] a b → KeepsPlaces source seating gives_such (given_by came) b d → is_waiting came ≡ true → KeepsPlaces source seating gives_such [] a d
waited_places source seating gives_such round.Waited a b d ka kb k l waits = places_then source seating gives_such [] [] a b d ka kb k l
waited_places source seating gives_such (round.Gave batch) a b d ka kb k l waits = absurd (cc)
waited_places source seating gives_such round.Ended a b d ka kb k l waits = absurd (cc)
waited_places source seating gives_such round.Over a b d ka kb k l waits = absurd (cc)

module _ {W S : Type 0} where
  -- where no visit was made, something was delivered
  pub waited_fewer : (came : Round) (old new : RunState W S) → GoesOn came old new → is_waiting came ≡ true → new.visits ≡ old.visits → asked_count new.live.items < asked_count old.live.items
  waited_fewer round.Waited old new p waits same = ⊎_elim (λ more. absurd (let m = more.0 in omega (arith, m, same))) (λ rests. rests.1) p
  waited_fewer (round.Gave batch) old new p waits same = absurd (cc)
  waited_fewer round.Ended old new p waits same = absurd (cc)
  waited_fewer round.Over old new p waits same = absurd (cc)

  -- and where a round was no wait, or visits were made, more were made
  pub went_more : (came : Round) (old new : RunState W S) → GoesOn came old new → is_over came ≡ false → (new.visits ≡ old.visits → is_waiting came ≡ false) → VisitsMore old new
  went_more round.Waited old new p last moved = ⊎_elim (λ more. more) (λ rests. absurd (let no = moved rests.0 in cc)) p
  went_more (round.Gave batch) old new p last moved = p
  went_more round.Ended old new p last moved = p
  went_more round.Over old new p last moved = absurd (cc)
