use Rattle.std.proofs.Common.{suc, refl}
use Rattle.vortex_scan.specs.RunState.{live_with}
use Rattle.vortex_scan.proofs.AskedOut.{asked_fewer, asked_live, last_asked, once_more}
use Rattle.vortex_scan.proofs.Kept.{each_long, each_on, each_same}
use Rattle.vortex_scan.proofs.ask.ask_out.Goals as goal

pub asking-init : goal.asking-init
asking-init g c = record { gives = (0, λ owners. refl); live = c.requires.live; kept = each_same g.S.IoSource c.args.slots.now.items }

pub ask-requires-clause-in_range : goal.ask-requires-clause-in_range
ask-requires-clause-in_range g c = rw (each_long g.S.IoSource c.args.slots.now.items c.asking.slots.items c.asking.invariant.kept) c.requires.in_range

pub returns-in-Err-clause-err : goal.returns-in-Err-clause-err
returns-in-Err-clause-err g c = λ owners.
    record { times = c.asking.invariant.gives.0; between = live_with c.asking.items.items c.asking.slots.items owners; gives = c.asking.invariant.gives.1 owners; fails = c.in-Err.ensures.err owners }

pub returns-in-Err-clause-sources : goal.returns-in-Err-clause-sources
returns-in-Err-clause-sources g c = each_on g.S.IoSource c.args.slots.now.items c.asking.slots.items c.ask.new.slots.items c.asking.invariant.kept c.ask.ensures.sources

pub returns-then-not-came-clause-ok : goal.returns-then-not-came-clause-ok
returns-then-not-came-clause-ok g c = λ owners.
    let a = c.in-Ok.ensures.ok owners in (
      c.asking.invariant.gives.0,
      live_with c.asking.items.items c.asking.slots.items owners,
      c.asking.invariant.gives.1 owners,
      last_asked g.W.Worker g.S.IoSource g.W.Payload.Payload c.args.root a.0 c.in-Ok.came (live_with c.asking.items.items c.asking.slots.items owners) (live_with c.ask.new.items.items c.ask.new.slots.items owners) a.1 a.2 c.if-not-came.true,
    )

pub returns-then-not-came-clause-sources : goal.returns-then-not-came-clause-sources
returns-then-not-came-clause-sources g c = each_on g.S.IoSource c.args.slots.now.items c.asking.slots.items c.ask.new.slots.items c.asking.invariant.kept c.ask.ensures.sources

pub asking-preserved : goal.asking-preserved
asking-preserved g c = record {
  gives = (
    suc c.asking.invariant.gives.0,
    λ owners.
        let a = c.in-Ok.ensures.ok owners in
        once_more g.W.Worker g.S.IoSource g.W.Payload.Payload c.args.root.0 c.asking.invariant.gives.0 a.0 c.in-Ok.came _ (live_with c.asking.items.items c.asking.slots.items owners) (live_with c.ask.new.items.items c.ask.new.slots.items owners)
        (c.asking.invariant.gives.1 owners) a.1 a.2 c.if-not-came.false,
  );
  live = let a = c.in-Ok.ensures.ok 0 in asked_live g.W.Worker g.S.IoSource g.W.Payload.Payload c.args.root a.0 (live_with c.asking.items.items c.asking.slots.items 0) (live_with c.ask.new.items.items c.ask.new.slots.items 0) a.1;
  kept = each_on g.S.IoSource c.args.slots.now.items c.asking.slots.items c.ask.new.slots.items c.asking.invariant.kept c.ask.ensures.sources;
}

pub asking-smaller : goal.asking-smaller
asking-smaller g c =
    let a = c.in-Ok.ensures.ok 0 in
    asked_fewer g.W.Worker g.S.IoSource g.W.Payload.Payload c.args.root a.0 c.in-Ok.came (live_with c.asking.items.items c.asking.slots.items 0) (live_with c.ask.new.items.items c.ask.new.slots.items 0) a.1 a.2 c.if-not-came.false
