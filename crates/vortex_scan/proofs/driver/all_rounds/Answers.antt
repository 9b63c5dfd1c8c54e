use Rattle.std.proofs.Common.{[], ◌∷◌, ◌++◌, refl, ◌∙◌, inr}
use Rattle.vortex_scan.proofs.Driven.{breaks_on, keeps_more, keeps_none, keeps_then, memory_stops, stops_then, went_ended, went_giving, went_waiting}
use Rattle.vortex_scan.proofs.Kept.{each_long, each_on}
use Rattle.vortex_scan.proofs.driver.all_rounds.Goals as goal

pub rounds-init : goal.rounds-init
rounds-init g c =
    let none = c.new-batches.ensures.items in
    record { goes = (0, (none, refl)); keeps = rw none (keeps_none _ g.S.IoSource _ _ c.args.run.now c.requires.well c.requires.fits); one = c.requires.one }

pub rounds-preserved-in-Ok-Waited : goal.rounds-preserved-in-Ok-Waited
rounds-preserved-in-Ok-Waited g c =
    let inv = c.rounds.invariant in
    let ok = rw c.in-Ok-Waited.field-0-is at c.in-Ok-Waited.ensures.ok in
    let keeps = rw c.in-Ok-Waited.field-0-is at c.in-Ok-Waited.ensures.keeps in
    record {
      goes = went_waiting _ g.S.IoSource _ inv.goes.0 c.rounds.batches.items c.args.run.now c.rounds.run c.some_rounds.new.run inv.goes.1 ok;
      keeps = keeps_more _ g.S.IoSource _ _ c.rounds.batches.items c.args.run.now c.rounds.run c.some_rounds.new.run inv.keeps keeps;
      one = each_long g.S.IoSource c.rounds.run.live.slots c.some_rounds.new.run.live.slots keeps.sources ∙ inv.one;
    }

pub rounds-preserved : goal.rounds-preserved
rounds-preserved g c =
    let inv = c.rounds.invariant in
    let ok = rw c.in-Ok-Gave.field-0-is at c.in-Ok-Gave.ensures.ok in
    let keeps = rw c.in-Ok-Gave.field-0-is at c.in-Ok-Gave.ensures.keeps in
    let items = c.in-Ok.ensures.items in
    record {
      goes = rw items (went_giving _ g.S.IoSource _ inv.goes.0 c.rounds.batches.items c.in-Ok-Gave.batch c.args.run.now c.rounds.run c.some_rounds.new.run inv.goes.1 ok);
      keeps = rw items (keeps_then _ g.S.IoSource _ _ c.rounds.batches.items (c.in-Ok-Gave.batch ∷ []) c.args.run.now c.rounds.run c.some_rounds.new.run inv.keeps keeps);
      one = each_long g.S.IoSource c.rounds.run.live.slots c.some_rounds.new.run.live.slots keeps.sources ∙ inv.one;
    }

pub returns-in-Err-push-clause-stops : goal.returns-in-Err-push-clause-stops
returns-in-Err-push-clause-stops g c =
    let keeps = rw c.in-Ok-Gave.field-0-is at c.in-Ok-Gave.ensures.keeps in
    memory_stops _ g.S.IoSource _ _ (c.rounds.batches.items ++ c.in-Ok-Gave.batch ∷ []) _ c.args.run.now c.some_rounds.new.run refl
    (keeps_then _ g.S.IoSource _ _ c.rounds.batches.items (c.in-Ok-Gave.batch ∷ []) c.args.run.now c.rounds.run c.some_rounds.new.run c.rounds.invariant.keeps keeps)

pub returns-in-Err-push-clause-sources : goal.returns-in-Err-push-clause-sources
returns-in-Err-push-clause-sources g c = each_on g.S.IoSource c.args.run.now.live.slots c.rounds.run.live.slots c.some_rounds.new.run.live.slots c.rounds.invariant.keeps.sources c.in-Ok-Gave.ensures.keeps.sources

pub returns-in-Ok-Ended-clause-ok : goal.returns-in-Ok-Ended-clause-ok
returns-in-Ok-Ended-clause-ok g c =
    let inv = c.rounds.invariant in
    let ok = rw c.in-Ok-Ended.field-0-is at c.in-Ok-Ended.ensures.ok in
    went_ended _ g.S.IoSource _ inv.goes.0 c.rounds.batches.items c.args.run.now c.rounds.run c.some_rounds.new.run inv.goes.1 ok

pub returns-in-Ok-Ended-clause-keeps : goal.returns-in-Ok-Ended-clause-keeps
returns-in-Ok-Ended-clause-keeps g c =
    let keeps = rw c.in-Ok-Ended.field-0-is at c.in-Ok-Ended.ensures.keeps in
    keeps_more _ g.S.IoSource _ _ c.rounds.batches.items c.args.run.now c.rounds.run c.some_rounds.new.run c.rounds.invariant.keeps keeps

pub returns-in-Ok-Ended-clause-sources : goal.returns-in-Ok-Ended-clause-sources
returns-in-Ok-Ended-clause-sources g c = each_on g.S.IoSource c.args.run.now.live.slots c.rounds.run.live.slots c.some_rounds.new.run.live.slots c.rounds.invariant.keeps.sources c.in-Ok-Ended.ensures.keeps.sources

pub returns-in-Err-clause-err : goal.returns-in-Err-clause-err
returns-in-Err-clause-err g c =
    let inv = c.rounds.invariant in
    inr (breaks_on _ g.S.IoSource _ inv.goes.0 c.rounds.batches.items c.in-Err.error c.args.run.now c.rounds.run c.some_rounds.new.run inv.goes.1 c.in-Err.ensures.err)

pub returns-in-Err-clause-stops : goal.returns-in-Err-clause-stops
returns-in-Err-clause-stops g c = stops_then _ g.S.IoSource _ _ c.rounds.batches.items c.in-Err.error c.args.run.now c.rounds.run c.some_rounds.new.run c.rounds.invariant.keeps c.in-Err.ensures.stops

pub returns-in-Err-clause-sources : goal.returns-in-Err-clause-sources
returns-in-Err-clause-sources g c = each_on g.S.IoSource c.args.run.now.live.slots c.rounds.run.live.slots c.some_rounds.new.run.live.slots c.rounds.invariant.keeps.sources c.in-Err.ensures.stops.sources
