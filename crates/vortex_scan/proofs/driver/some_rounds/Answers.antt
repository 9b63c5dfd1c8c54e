use Rattle.std.proofs.Common.{[], suc, refl, sym, ◌∙◌}
use Rattle.vortex_scan.specs.Driving.{given_by}
use Rattle.vortex_scan.proofs.Driven.{keeps_none, keeps_then, stops_then, waited_keeps, waited_on}
use Rattle.vortex_scan.proofs.Kept.{each_long}
use Rattle.vortex_scan.proofs.driver.some_rounds.Goals as goal

pub waits-init : goal.waits-init
waits-init g c = record { goes = (0, (refl, refl)); keeps = keeps_none _ g.S.IoSource _ _ c.args.run.now c.requires.well c.requires.fits; still = sym c.visits-before.ensures; begun = c.visits-before.ensures; one = c.requires.one }

pub returns-in-Err-clause-err : goal.returns-in-Err-clause-err
returns-in-Err-clause-err g c =
    let goes = c.waits.invariant.goes in
    record { rounds = goes.0; given = []; between = c.waits.run; goes = goes.1; fails = c.in-Err.ensures.err }

pub returns-in-Err-clause-stops : goal.returns-in-Err-clause-stops
returns-in-Err-clause-stops g c = stops_then _ g.S.IoSource _ _ [] c.in-Err.error c.args.run.now c.waits.run c.one_round.new.run c.waits.invariant.keeps c.in-Err.ensures.stops

pub returns-then-not-is_wait-clause-keeps : goal.returns-then-not-is_wait-clause-keeps
returns-then-not-is_wait-clause-keeps g c = keeps_then _ g.S.IoSource _ _ [] (given_by c.in-Ok.came) c.args.run.now c.waits.run c.one_round.new.run c.waits.invariant.keeps c.in-Ok.ensures.keeps

pub waits-preserved : goal.waits-preserved
waits-preserved g c =
    let inv = c.waits.invariant in
    let waits = sym c.is_wait.ensures ∙ c.if-not-is_wait.false in
    record {
      goes = (suc inv.goes.0, waited_on _ g.S.IoSource _ inv.goes.0 c.in-Ok.came c.args.run.now c.waits.run c.one_round.new.run inv.goes.1 c.in-Ok.ensures.ok waits);
      keeps = waited_keeps _ g.S.IoSource _ _ c.in-Ok.came c.args.run.now c.waits.run c.one_round.new.run inv.keeps c.in-Ok.ensures.keeps waits;
      still = sym c.visits.ensures ∙ c.if-visits-before.false;
      begun = inv.begun;
      one = each_long g.S.IoSource c.waits.run.live.slots c.one_round.new.run.live.slots c.in-Ok.ensures.keeps.sources ∙ inv.one;
    }
