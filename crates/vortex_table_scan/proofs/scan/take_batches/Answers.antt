use Rattle.std.proofs.Common.{refl, inl, inr}
use Rattle.vortex_table_scan.proofs.Called.{kept_leaves}
use Rattle.vortex_table_scan.proofs.Told.{gathers_told, stops_told}
use Rattle.vortex_table_scan.proofs.scan.take_batches.Goals as goal

-- the failure has a name
pub scan_error-requires : goal.scan_error-requires
scan_error-requires g c = c.requires.meets c.in-Err.error c.gather.new.run (stops_told _ g.S.IoSource _ _ (λ t. (tt, tt)) c.in-Err.error c.args.run.now c.gather.new.run c.in-Err.ensures.stops)

-- batches came, and were finished
pub returns-in-Ok-finish-clause-ok : goal.returns-in-Ok-finish-clause-ok
returns-in-Ok-finish-clause-ok g c = record {
  between = c.gather.new.run;
  gathered = c.in-Ok.batches.items;
  gathers = gathers_told _ g.S.IoSource _ _ (λ t. (tt, tt)) _ _ _ (λ t. (tt, tt)) _ _ _ c.in-Ok.batches.items c.args.run.now c.gather.new.run (rw c.stop_limit.ensures at c.in-Ok.ensures.gathers);
  cancels = c.in-Ok-finish.ensures.cancels;
  finishes = c.in-Ok-finish.ensures.finishes;
}

-- memory was wanting for them
pub returns-in-Err-finish-clause-err : goal.returns-in-Err-finish-clause-err
returns-in-Err-finish-clause-err g c =
    rw c.in-Err-finish.ensures.err (record {
      keeps = c.in-Ok.ensures.gathers.keeps.sources;
      leaves = λ p. kept_leaves g.S.IoSource _ _ c.in-Ok.ensures.gathers.given c.args.run.now.live c.gather.new.run.live (c.in-Ok.ensures.gathers.places (tt, tt));
      cause = inr refl;
    })

-- the run failed
pub returns-in-Err-clause-err : goal.returns-in-Err-clause-err
returns-in-Err-clause-err g c = record {
  keeps = c.in-Err.ensures.stops.sources;
  leaves = λ p. c.in-Err.ensures.leaves tt tt;
  cause = inl (c.in-Err.error, stops_told _ g.S.IoSource _ _ (λ t. (tt, tt)) c.in-Err.error c.args.run.now c.gather.new.run c.in-Err.ensures.stops, c.scan_error.ensures);
}
