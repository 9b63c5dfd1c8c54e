use Rattle.std.proofs.Common.{[], ◌∷◌, ◌++◌, refl, inl, inr}
use Rattle.vortex_scan.proofs.Driven.{keeps_more, keeps_none, keeps_then, memory_stops, stops_then}
use Rattle.vortex_table_scan.proofs.Called.{kept_leaves}
use Rattle.vortex_table_scan.proofs.Cutting.{cut_done, cut_none, cut_on, cut_reached}
use Rattle.vortex_table_scan.proofs.Placing.{leaves_then, places_more, places_none, places_then}
use Rattle.vortex_table_scan.proofs.rounds.gather.Goals as goal

pub rounds-init : goal.rounds-init
rounds-init g c =
    let none = c.new-batches.ensures.items in
    record {
      given = [];
      cut = rw none (cut_none c.args.limit);
      keeps = keeps_none _ g.S.IoSource _ _ c.args.run.now c.requires.well c.requires.fits;
      places = λ p. places_none g.S.IoSource _ g.P.Morsel.Morsel.gives_such c.args.run.now.live;
    }

-- nothing was given, and the run went on
pub rounds-preserved-in-Ok-Waited : goal.rounds-preserved-in-Ok-Waited
rounds-preserved-in-Ok-Waited g c =
    let inv = c.rounds.invariant in
    let keeps = rw c.in-Ok-Waited.field-0-is at c.in-Ok-Waited.ensures.keeps in
    record {
      given = inv.given;
      cut = inv.cut;
      keeps = keeps_more _ g.S.IoSource _ _ inv.given c.args.run.now c.rounds.run c.some_rounds.new.run inv.keeps keeps;
      places = λ p. places_more g.S.IoSource _ g.P.Morsel.Morsel.gives_such inv.given c.args.run.now.live c.rounds.run.live c.some_rounds.new.run.live inv.keeps.sources keeps.sources (inv.places p)
          (rw c.in-Ok-Waited.field-0-is at c.in-Ok-Waited.ensures.places p.0 p.1);
    }

pub rounds-preserved-in-Ok-Ended : goal.rounds-preserved-in-Ok-Ended
rounds-preserved-in-Ok-Ended g c =
    let inv = c.rounds.invariant in
    let keeps = rw c.in-Ok-Ended.field-0-is at c.in-Ok-Ended.ensures.keeps in
    record {
      given = inv.given;
      cut = inv.cut;
      keeps = keeps_more _ g.S.IoSource _ _ inv.given c.args.run.now c.rounds.run c.some_rounds.new.run inv.keeps keeps;
      places = λ p. places_more g.S.IoSource _ g.P.Morsel.Morsel.gives_such inv.given c.args.run.now.live c.rounds.run.live c.some_rounds.new.run.live inv.keeps.sources keeps.sources (inv.places p)
          (rw c.in-Ok-Ended.field-0-is at c.in-Ok-Ended.ensures.places p.0 p.1);
    }

-- a batch was given, and joined the others
pub rounds-preserved : goal.rounds-preserved
rounds-preserved g c =
    let inv = c.rounds.invariant in
    let keeps = rw c.in-Ok-Gave.field-0-is at c.in-Ok-Gave.ensures.keeps in
    let batch = c.in-Ok-Gave.batch in
    record {
      given = inv.given ++ batch ∷ [];
      cut = cut_on c.args.limit inv.given batch c.rounds.batches.items c.push_within.new.batches.items c.rounds.left c.in-Ok.now inv.cut (c.is_reached.ensures.no c.if-is_reached.false) c.in-Ok.ensures;
      keeps = keeps_then _ g.S.IoSource _ _ inv.given (batch ∷ []) c.args.run.now c.rounds.run c.some_rounds.new.run inv.keeps keeps;
      places = λ p. places_then g.S.IoSource _ g.P.Morsel.Morsel.gives_such inv.given (batch ∷ []) c.args.run.now.live c.rounds.run.live c.some_rounds.new.run.live inv.keeps.sources keeps.sources (inv.places p)
          (rw c.in-Ok-Gave.field-0-is at c.in-Ok-Gave.ensures.places p.0 p.1);
    }

-- the limit is reached
pub returns-then-is_reached-clause-gathers : goal.returns-then-is_reached-clause-gathers
returns-then-is_reached-clause-gathers g c =
    let inv = c.rounds.invariant in
    record {
      given = inv.given;
      cut = cut_done c.args.limit inv.given c.rounds.batches.items c.rounds.left inv.cut;
      keeps = inv.keeps;
      places = inv.places;
      ends = inr (cut_reached c.args.limit inv.given c.rounds.batches.items c.rounds.left inv.cut (c.is_reached.ensures.yes c.if-is_reached.true));
    }

-- nothing is live
pub returns-in-Ok-Over-clause-gathers : goal.returns-in-Ok-Over-clause-gathers
returns-in-Ok-Over-clause-gathers g c =
    let inv = c.rounds.invariant in
    let keeps = rw c.in-Ok-Over.field-0-is at c.in-Ok-Over.ensures.keeps in
    record {
      given = inv.given;
      cut = cut_done c.args.limit inv.given c.rounds.batches.items c.rounds.left inv.cut;
      keeps = keeps_more _ g.S.IoSource _ _ inv.given c.args.run.now c.rounds.run c.some_rounds.new.run inv.keeps keeps;
      places = λ p. places_more g.S.IoSource _ g.P.Morsel.Morsel.gives_such inv.given c.args.run.now.live c.rounds.run.live c.some_rounds.new.run.live inv.keeps.sources keeps.sources (inv.places p)
          (rw c.in-Ok-Over.field-0-is at c.in-Ok-Over.ensures.places p.0 p.1);
      ends = inl (rw c.in-Ok-Over.field-0-is at c.in-Ok-Over.ensures.over refl);
    }

-- memory was wanting for a batch
pub returns-in-Err-push_within-clause-stops : goal.returns-in-Err-push_within-clause-stops
returns-in-Err-push_within-clause-stops g c =
    let inv = c.rounds.invariant in
    let keeps = rw c.in-Ok-Gave.field-0-is at c.in-Ok-Gave.ensures.keeps in
    memory_stops _ g.S.IoSource _ _ (inv.given ++ c.in-Ok-Gave.batch ∷ []) _ c.args.run.now c.some_rounds.new.run refl
    (keeps_then _ g.S.IoSource _ _ inv.given (c.in-Ok-Gave.batch ∷ []) c.args.run.now c.rounds.run c.some_rounds.new.run inv.keeps keeps)

pub returns-in-Err-push_within-clause-leaves : goal.returns-in-Err-push_within-clause-leaves
returns-in-Err-push_within-clause-leaves g c = λ p m.
    let inv = c.rounds.invariant in
    let keeps = rw c.in-Ok-Gave.field-0-is at c.in-Ok-Gave.ensures.keeps in
    leaves_then g.S.IoSource _ g.P.Morsel.Morsel.gives_such inv.given c.args.run.now.live c.rounds.run.live c.some_rounds.new.run.live inv.keeps.sources keeps.sources (inv.places (p, m))
    (kept_leaves g.S.IoSource _ g.P.Morsel.Morsel.gives_such (c.in-Ok-Gave.batch ∷ []) c.rounds.run.live c.some_rounds.new.run.live (rw c.in-Ok-Gave.field-0-is at c.in-Ok-Gave.ensures.places p m))

-- a round was refused
pub returns-in-Err-clause-stops : goal.returns-in-Err-clause-stops
returns-in-Err-clause-stops g c = stops_then _ g.S.IoSource _ _ c.rounds.invariant.given c.in-Err.error c.args.run.now c.rounds.run c.some_rounds.new.run c.rounds.invariant.keeps c.in-Err.ensures.stops

pub returns-in-Err-clause-leaves : goal.returns-in-Err-clause-leaves
returns-in-Err-clause-leaves g c = λ p m.
    leaves_then g.S.IoSource _ g.P.Morsel.Morsel.gives_such c.rounds.invariant.given c.args.run.now.live c.rounds.run.live c.some_rounds.new.run.live c.rounds.invariant.keeps.sources c.in-Err.ensures.stops.sources (c.rounds.invariant.places (p, m)) (c.in-Err.ensures.leaves p m)
