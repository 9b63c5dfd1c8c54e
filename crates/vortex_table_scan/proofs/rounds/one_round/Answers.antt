use Rattle.std.proofs.Common.{◌∙◌, ap, [], ⊎_elim}
use Rattle.vortex_scan.specs.Asking.{root_at}
use Rattle.vortex_scan.specs.Bag.{work_owed}
use Rattle.vortex_scan.specs.Driving.{KeepsRun}
use Rattle.vortex_scan.proofs.Asked.{waits_fits}
use Rattle.vortex_scan.proofs.Driven.{keeps_then, stops_then, waited_proceeds}
use Rattle.vortex_scan.proofs.Proceeding.{advance_blames, advances_fits, advances_same, batch_more, done_more, waiting_blames, waiting_more, waits_fewer}
use Rattle.vortex_scan.specs.Seats.{IsTold}
use Rattle.vortex_table_scan.proofs.Called.{called_places, refused_places, waiting_leaves, waiting_places}
use Rattle.vortex_table_scan.proofs.Placing.{leaves_then, places_then}
use Rattle.vortex_table_scan.proofs.rounds.one_round.Goals as goal

pub returns-in-Ok-Batch-clause-keeps : goal.returns-in-Ok-Batch-clause-keeps
returns-in-Ok-Batch-clause-keeps g c =
    let ok = rw c.in-Ok-Batch.field-0-is at c.in-Ok-Batch.ensures.ok in
    let same = advances_same _ g.S.IoSource _ c.args.run.now c.advance.new.self _ ok.1 in
    record {
      well = same.1 ∙ ok.0;
      fits = advances_fits _ g.S.IoSource _ c.args.run.now c.advance.new.self _ c.requires.fits ok.1;
      limit = same.0;
      sources = c.advance.ensures.sources;
      in_step = c.in-Ok-Batch.ensures.in_step;
      bag = λ t. rw c.in-Ok-Batch.field-0-is at c.in-Ok-Batch.ensures.bag t.0 t.1;
      orderly = c.in-Ok-Batch.ensures.orderly;
      work = c.in-Ok-Batch.ensures.work;
      permitted = λ t. c.in-Ok-Batch.ensures.permitted t.0 t.1;
    }

pub returns-in-Ok-RootDone-clause-keeps : goal.returns-in-Ok-RootDone-clause-keeps
returns-in-Ok-RootDone-clause-keeps g c =
    let ok = rw c.in-Ok-RootDone.field-0-is at c.in-Ok-RootDone.ensures.ok in
    let same = advances_same _ g.S.IoSource _ c.args.run.now c.advance.new.self _ ok.1 in
    record {
      well = same.1 ∙ ok.0;
      fits = advances_fits _ g.S.IoSource _ c.args.run.now c.advance.new.self _ c.requires.fits ok.1;
      limit = same.0;
      sources = c.advance.ensures.sources;
      in_step = c.in-Ok-RootDone.ensures.in_step;
      bag = λ t. rw c.in-Ok-RootDone.field-0-is at c.in-Ok-RootDone.ensures.bag t.0 t.1;
      orderly = c.in-Ok-RootDone.ensures.orderly;
      work = c.in-Ok-RootDone.ensures.work;
      permitted = λ t. c.in-Ok-RootDone.ensures.permitted t.0 t.1;
    }

pub returns-in-Ok-Idle-clause-keeps : goal.returns-in-Ok-Idle-clause-keeps
returns-in-Ok-Idle-clause-keeps g c =
    let ok = rw c.in-Ok-Idle.field-0-is at c.in-Ok-Idle.ensures.ok in
    let same = advances_same _ g.S.IoSource _ c.args.run.now c.advance.new.self _ ok.1 in
    record {
      well = same.1 ∙ ok.0;
      fits = advances_fits _ g.S.IoSource _ c.args.run.now c.advance.new.self _ c.requires.fits ok.1;
      limit = same.0;
      sources = c.advance.ensures.sources;
      in_step = c.in-Ok-Idle.ensures.in_step;
      bag = λ t. rw c.in-Ok-Idle.field-0-is at c.in-Ok-Idle.ensures.bag t.0 t.1;
      orderly = c.in-Ok-Idle.ensures.orderly;
      work = c.in-Ok-Idle.ensures.work;
      permitted = λ t. c.in-Ok-Idle.ensures.permitted t.0 t.1;
    }

pub returns-in-Ok-Batch-clause-proceeds : goal.returns-in-Ok-Batch-clause-proceeds
returns-in-Ok-Batch-clause-proceeds g c =
    let ok = rw c.in-Ok-Batch.field-0-is at c.in-Ok-Batch.ensures.ok in
    batch_more _ g.S.IoSource _ c.args.run.now c.advance.new.self c.in-Ok-Batch.batch ok.1

pub returns-in-Ok-clause-keeps : goal.returns-in-Ok-clause-keeps
returns-in-Ok-clause-keeps g c =
    let ok = rw c.in-Ok-Waiting.field-0-is at c.in-Ok-Waiting.ensures.ok in
    let same = advances_same _ g.S.IoSource _ c.args.run.now c.advance.new.self _ ok.1 in
    let before : KeepsRun _ g.S.IoSource (work_owed g.P.Planner.owed g.P.Morsel.Morsel.owed) (g.P.Planner.tells × g.P.Morsel.Morsel.tells) [] c.args.run.now c.advance.new.self =
    record {
      well = same.1 ∙ ok.0;
      fits = advances_fits _ g.S.IoSource _ c.args.run.now c.advance.new.self _ c.requires.fits ok.1;
      limit = same.0;
      sources = c.advance.ensures.sources;
      in_step = c.in-Ok-Waiting.ensures.in_step;
      bag = λ t. rw c.in-Ok-Waiting.field-0-is at c.in-Ok-Waiting.ensures.bag t.0 t.1;
      orderly = c.in-Ok-Waiting.ensures.orderly;
      work = c.in-Ok-Waiting.ensures.work;
      permitted = λ t. c.in-Ok-Waiting.ensures.permitted t.0 t.1;
    } in
    let w = c.in-Ok.ensures.ok in
    keeps_then _ g.S.IoSource _ _ [] [] c.args.run.now c.advance.new.self c.wait_any.new.self before
    (record {
      well = ap (λ run. run.failed) w.3 ∙ before.well;
      fits = waits_fits _ g.S.IoSource _ (root_at w.0) c.advance.new.self.live c.wait_any.new.self.live before.fits w.2;
      limit = ap (λ run. run.limit) w.3;
      sources = c.wait_any.ensures.sources;
      in_step = c.in-Ok.ensures.in_step;
      bag = λ t. c.in-Ok.ensures.bag t.0 t.1;
      orderly = c.in-Ok.ensures.orderly;
      work = c.in-Ok.ensures.work;
      permitted = λ t. c.in-Ok.ensures.permitted t.0 t.1;
    })

pub returns-in-Ok-clause-proceeds : goal.returns-in-Ok-clause-proceeds
returns-in-Ok-clause-proceeds g c =
    let ok = rw c.in-Ok-Waiting.field-0-is at c.in-Ok-Waiting.ensures.ok in
    let w = c.in-Ok.ensures.ok in
    let fewer = waits_fewer _ g.S.IoSource _ (root_at w.0) c.advance.new.self.live c.wait_any.new.self.live w.2 in
    let visits = ap (λ run. run.visits) w.3 in
    let limit = ap (λ run. run.limit) w.3 in
    waited_proceeds c.args.run.now c.advance.new.self c.wait_any.new.self visits limit fewer (waiting_more _ g.S.IoSource _ c.args.run.now c.advance.new.self ok.1)

pub returns-in-Err-wait_any-clause-stops : goal.returns-in-Err-wait_any-clause-stops
returns-in-Err-wait_any-clause-stops g c =
    let ok = rw c.in-Ok-Waiting.field-0-is at c.in-Ok-Waiting.ensures.ok in
    let same = advances_same _ g.S.IoSource _ c.args.run.now c.advance.new.self _ ok.1 in
    let before : KeepsRun _ g.S.IoSource (work_owed g.P.Planner.owed g.P.Morsel.Morsel.owed) (g.P.Planner.tells × g.P.Morsel.Morsel.tells) [] c.args.run.now c.advance.new.self =
    record {
      well = same.1 ∙ ok.0;
      fits = advances_fits _ g.S.IoSource _ c.args.run.now c.advance.new.self _ c.requires.fits ok.1;
      limit = same.0;
      sources = c.advance.ensures.sources;
      in_step = c.in-Ok-Waiting.ensures.in_step;
      bag = λ t. rw c.in-Ok-Waiting.field-0-is at c.in-Ok-Waiting.ensures.bag t.0 t.1;
      orderly = c.in-Ok-Waiting.ensures.orderly;
      work = c.in-Ok-Waiting.ensures.work;
      permitted = λ t. c.in-Ok-Waiting.ensures.permitted t.0 t.1;
    } in
    let w = c.in-Err-wait_any.ensures.err in
    let none = waiting_blames _ g.S.IoSource _ (root_at w.0) c.advance.new.self.live c.wait_any.new.self.live c.in-Err-wait_any.error w.2 in
    stops_then _ g.S.IoSource _ _ [] c.in-Err-wait_any.error c.args.run.now c.advance.new.self c.wait_any.new.self before
    (record {
      own = none.0;
      sources = c.wait_any.ensures.sources;
      cause = c.in-Err-wait_any.ensures.cause;
      unexpected = c.in-Err-wait_any.ensures.unexpected;
      disorder = c.in-Err-wait_any.ensures.disorder;
      permits = λ t root failure content e. absurd (none.1 root failure e);
      blames = λ root failure e. absurd (none.1 root failure e);
    })

pub returns-in-Err-clause-stops : goal.returns-in-Err-clause-stops
returns-in-Err-clause-stops g c =
    let b = ⊎_elim (λ had. absurd (let well = c.requires.well in let failed = had.0 in cc)) (λ did. advance_blames _ g.S.IoSource _ c.args.run.now _ c.in-Err.error c.requires.fits did.2) c.in-Err.ensures.err in
    record {
      own = b.0;
      sources = c.advance.ensures.sources;
      cause = c.in-Err.ensures.cause;
      unexpected = c.in-Err.ensures.unexpected;
      disorder = c.in-Err.ensures.disorder;
      permits = λ t. c.in-Err.ensures.permits t.0 t.1;
      blames = b.1;
    }

pub returns-in-Ok-RootDone-clause-proceeds : goal.returns-in-Ok-RootDone-clause-proceeds
returns-in-Ok-RootDone-clause-proceeds g c =
    let ok = rw c.in-Ok-RootDone.field-0-is at c.in-Ok-RootDone.ensures.ok in
    done_more _ g.S.IoSource _ c.args.run.now c.advance.new.self c.in-Ok-RootDone._root ok.1

pub returns-in-Ok-Batch-clause-places : goal.returns-in-Ok-Batch-clause-places
returns-in-Ok-Batch-clause-places g c = λ p m.
    let seated = rw c.in-Ok-Batch.field-0-is at c.in-Ok-Batch.ensures.seated p m in
    called_places (λ root told. IsTold (g.P.Planner.tells × g.P.Morsel.Morsel.tells) g.S.IoSource c.args.run.now.live.slots c.advance.new.self.live.slots root told) (λ root. tt) g.S.IoSource _ g.P.Morsel.Morsel.gives_such _ c.args.run.now.live c.advance.new.self.live (c.in-Ok-Batch.ensures.seats p m) seated (c.in-Ok-Batch.ensures.fetched p m) (c.in-Ok-Batch.ensures.fresh p m) c.advance.ensures.journals (c.advance.ensures.sure p m)

pub returns-in-Ok-RootDone-clause-places : goal.returns-in-Ok-RootDone-clause-places
returns-in-Ok-RootDone-clause-places g c = λ p m.
    let seated = rw c.in-Ok-RootDone.field-0-is at c.in-Ok-RootDone.ensures.seated p m in
    called_places (λ root told. IsTold (g.P.Planner.tells × g.P.Morsel.Morsel.tells) g.S.IoSource c.args.run.now.live.slots c.advance.new.self.live.slots root told) (λ root. tt) g.S.IoSource _ g.P.Morsel.Morsel.gives_such _ c.args.run.now.live c.advance.new.self.live (c.in-Ok-RootDone.ensures.seats p m) seated (c.in-Ok-RootDone.ensures.fetched p m) (c.in-Ok-RootDone.ensures.fresh p m) c.advance.ensures.journals (c.advance.ensures.sure p m)

pub returns-in-Ok-Idle-clause-places : goal.returns-in-Ok-Idle-clause-places
returns-in-Ok-Idle-clause-places g c = λ p m.
    let seated = rw c.in-Ok-Idle.field-0-is at c.in-Ok-Idle.ensures.seated p m in
    called_places (λ root told. IsTold (g.P.Planner.tells × g.P.Morsel.Morsel.tells) g.S.IoSource c.args.run.now.live.slots c.advance.new.self.live.slots root told) (λ root. tt) g.S.IoSource _ g.P.Morsel.Morsel.gives_such _ c.args.run.now.live c.advance.new.self.live (c.in-Ok-Idle.ensures.seats p m) seated (c.in-Ok-Idle.ensures.fetched p m) (c.in-Ok-Idle.ensures.fresh p m) c.advance.ensures.journals (c.advance.ensures.sure p m)

pub returns-in-Ok-clause-places : goal.returns-in-Ok-clause-places
returns-in-Ok-clause-places g c = λ p m.
    let seated = rw c.in-Ok-Waiting.field-0-is at c.in-Ok-Waiting.ensures.seated p m in
    let none = c.in-Ok-Waiting.ensures.none_fresh p m c.in-Ok-Waiting.field-0-is in
    places_then g.S.IoSource _ g.P.Morsel.Morsel.gives_such [] [] c.args.run.now.live c.advance.new.self.live c.wait_any.new.self.live c.advance.ensures.sources c.wait_any.ensures.sources
    (called_places (λ root told. IsTold (g.P.Planner.tells × g.P.Morsel.Morsel.tells) g.S.IoSource c.args.run.now.live.slots c.advance.new.self.live.slots root told) (λ root. tt) g.S.IoSource _ g.P.Morsel.Morsel.gives_such [] c.args.run.now.live c.advance.new.self.live (c.in-Ok-Waiting.ensures.seats p m) tt (c.in-Ok-Waiting.ensures.fetched p m) (c.in-Ok-Waiting.ensures.fresh p m) c.advance.ensures.journals (c.advance.ensures.sure p m))
    (waiting_places (λ root told. IsTold (g.P.Planner.tells × g.P.Morsel.Morsel.tells) g.S.IoSource c.advance.new.self.live.slots c.wait_any.new.self.live.slots root told) (λ root. tt) g.S.IoSource _ g.P.Morsel.Morsel.gives_such c.advance.new.self.live c.wait_any.new.self.live (c.in-Ok.ensures.seats p m) (c.in-Ok.ensures.fetched p m) none c.wait_any.ensures.sure)

pub returns-in-Err-wait_any-clause-leaves : goal.returns-in-Err-wait_any-clause-leaves
returns-in-Err-wait_any-clause-leaves g c = λ p m.
    let none = c.in-Ok-Waiting.ensures.none_fresh p m c.in-Ok-Waiting.field-0-is in
    leaves_then g.S.IoSource _ g.P.Morsel.Morsel.gives_such [] c.args.run.now.live c.advance.new.self.live c.wait_any.new.self.live c.advance.ensures.sources c.wait_any.ensures.sources
    (called_places (λ root told. IsTold (g.P.Planner.tells × g.P.Morsel.Morsel.tells) g.S.IoSource c.args.run.now.live.slots c.advance.new.self.live.slots root told) (λ root. tt) g.S.IoSource _ g.P.Morsel.Morsel.gives_such [] c.args.run.now.live c.advance.new.self.live (c.in-Ok-Waiting.ensures.seats p m) tt (c.in-Ok-Waiting.ensures.fetched p m) (c.in-Ok-Waiting.ensures.fresh p m) c.advance.ensures.journals (c.advance.ensures.sure p m))
    (waiting_leaves (λ root told. IsTold (g.P.Planner.tells × g.P.Morsel.Morsel.tells) g.S.IoSource c.advance.new.self.live.slots c.wait_any.new.self.live.slots root told) (λ root. tt) g.S.IoSource _ g.P.Morsel.Morsel.gives_such c.advance.new.self.live c.wait_any.new.self.live c.wait_any.ensures.journals none c.wait_any.ensures.sure)

pub returns-in-Err-clause-leaves : goal.returns-in-Err-clause-leaves
returns-in-Err-clause-leaves g c = λ p m.
    refused_places (λ root told. IsTold (g.P.Planner.tells × g.P.Morsel.Morsel.tells) g.S.IoSource c.args.run.now.live.slots c.advance.new.self.live.slots root told) (λ root. tt) g.S.IoSource _ g.P.Morsel.Morsel.gives_such c.args.run.now.live c.advance.new.self.live (c.in-Err.ensures.fetched_at_most p m) c.advance.ensures.journals (c.advance.ensures.sure p m)
