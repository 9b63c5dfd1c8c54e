use Rattle.std.proofs.Common.{sym, ◌∙◌, []}
use Rattle.vortex_scan.proofs.Driven.{keeps_none, keeps_then, stops_then}
use Rattle.vortex_table_scan.specs.Rounds.{given_by}
use Rattle.vortex_table_scan.proofs.Going.{waited_keeps, waited_places}
use Rattle.vortex_table_scan.proofs.Placing.{leaves_then, places_none, places_then}
use Rattle.vortex_table_scan.proofs.rounds.some_rounds.Goals as goal

pub waits-init : goal.waits-init
waits-init g c = record {
  keeps = keeps_none _ g.S.IoSource _ _ c.args.run.now c.requires.well c.requires.fits;
  places = λ p m. places_none g.S.IoSource _ _ c.args.run.now.live;
  still = sym c.visits-before.ensures;
  begun = c.visits-before.ensures;
}

pub returns-in-Err-clause-stops : goal.returns-in-Err-clause-stops
returns-in-Err-clause-stops g c = stops_then _ g.S.IoSource _ _ [] c.in-Err.error c.args.run.now c.waits.run c.one_round.new.run c.waits.invariant.keeps c.in-Err.ensures.stops

pub returns-in-Err-clause-leaves : goal.returns-in-Err-clause-leaves
returns-in-Err-clause-leaves g c = λ p m. leaves_then g.S.IoSource _ _ [] c.args.run.now.live c.waits.run.live c.one_round.new.run.live c.waits.invariant.keeps.sources c.in-Err.ensures.stops.sources (c.waits.invariant.places p m) (c.in-Err.ensures.leaves p m)

pub returns-then-not-is_wait-clause-keeps : goal.returns-then-not-is_wait-clause-keeps
returns-then-not-is_wait-clause-keeps g c = keeps_then _ g.S.IoSource _ _ [] (given_by c.in-Ok.came) c.args.run.now c.waits.run c.one_round.new.run c.waits.invariant.keeps c.in-Ok.ensures.keeps

pub returns-then-not-is_wait-clause-places : goal.returns-then-not-is_wait-clause-places
returns-then-not-is_wait-clause-places g c = λ p m. places_then g.S.IoSource _ _ [] (given_by c.in-Ok.came) c.args.run.now.live c.waits.run.live c.one_round.new.run.live c.waits.invariant.keeps.sources c.in-Ok.ensures.keeps.sources (c.waits.invariant.places p m) (c.in-Ok.ensures.places p m)

pub waits-preserved : goal.waits-preserved
waits-preserved g c =
    let inv = c.waits.invariant in
    let waits = sym c.is_wait.ensures ∙ c.if-not-is_wait.false in
    record {
      keeps = waited_keeps _ g.S.IoSource _ _ c.in-Ok.came c.args.run.now c.waits.run c.one_round.new.run inv.keeps c.in-Ok.ensures.keeps waits;
      places = λ p m. waited_places g.S.IoSource _ _ c.in-Ok.came c.args.run.now.live c.waits.run.live c.one_round.new.run.live inv.keeps.sources c.in-Ok.ensures.keeps.sources (inv.places p m) (c.in-Ok.ensures.places p m) waits;
      still = sym c.visits.ensures ∙ c.if-visits-before.false;
      begun = inv.begun;
    }
