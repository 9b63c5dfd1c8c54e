-- What is said of a run where its work tells what it owes and what it fetches, said where something else is so.
use Rattle.vortex_array.specs.Batch.{BatchParts}
use Rattle.vortex_io.specs.declared.source.IoSource.{Ghosts}
use Rattle.std.proofs.Common.{ℕ, List, Bool}
use Rattle.std.specs.Prelude.{Option}
use Rattle.vortex_scan.specs.Bag.{Owing}
use Rattle.vortex_scan.specs.Driving.{KeepsRun, StopsRun}
use Rattle.vortex_scan.specs.RunState.{RunState}
use Rattle.vortex_scan.specs.Seats.{Seating}
use Rattle.vortex_scan.specs.declared.errors.RunError.{RunError}
use Rattle.vortex_scan.specs.declared.worker.Worker.{Ghosts as Works}
use Rattle.vortex_scan_types.specs.declared.batch.Batch.{Batch}
use Rattle.vortex_table_scan.specs.Gathering.{Gathers}

module _ {W S C E : Type 0} (works : Works W C E) (source : Ghosts S C) (was now : Type 0) (told : now → was) where
  pub stops_told : (why : RunError E) (old new : RunState W S) → StopsRun works source was why old new → StopsRun works source now why old new
  stops_told why old new s = record { own = s.own; sources = s.sources; cause = s.cause; unexpected = s.unexpected; disorder = s.disorder; permits = λ t. s.permits (told t); blames = s.blames }

  pub keeps_told : (owed : Owing W C) (given : List Batch) (old new : RunState W S) → KeepsRun works source owed was given old new → KeepsRun works source owed now given old new
  keeps_told owed given old new k = record {
    well = k.well;
    fits = k.fits;
    limit = k.limit;
    sources = k.sources;
    in_step = k.in_step;
    bag = λ t. k.bag (told t);
    orderly = k.orderly;
    work = k.work;
    permitted = λ t. k.permitted (told t);
  }

  pub gathers_told : (owed : Owing W C) (plans planned : Type 0) → (planned → plans) → (seating : Seating W C) (gives_such : BatchParts → Bool) (limit : Option ℕ) (batches : List Batch) (old new : RunState W S)
      → Gathers works source owed was plans seating gives_such limit batches old new → Gathers works source owed now planned seating gives_such limit batches old new
  gathers_told owed plans planned f seating gives_such limit batches old new g = record { given = g.given; cut = g.cut; keeps = keeps_told owed g.given old new g.keeps; places = λ p. g.places (f p); ends = g.ends }
