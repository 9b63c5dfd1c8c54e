use Rattle.std.proofs.Common.{◌<◌, refl, add-one, length, rules}
use Rattle.vortex_scan.specs.RunState.{live_with}
use Rattle.vortex_scan.proofs.Kept.{each_long, each_on, each_same}
use Rattle.vortex_scan.proofs.ask.ask_once.Goals as goal

pub loop-root-init : goal.loop-root-init
loop-root-init g c = record { asked = λ owners. (refl, refl); kept = each_same g.S.IoSource c.args.slots.now.items }

pub ask_if_live-requires : goal.ask_if_live-requires
ask_if_live-requires g c =
    let long = each_long g.S.IoSource c.args.slots.now.items c.loop-root.slots.items c.loop-root.invariant.kept in
    let within : c.loop-root.root < length c.args.slots.now.items = search rules in
    rw long within

pub returns-in-Err-clause-err : goal.returns-in-Err-clause-err
returns-in-Err-clause-err g c = λ owners.
    let fails = c.in-Err.ensures.err owners in
    record {
      number = c.loop-root.root;
      between = live_with c.loop-root.items.items c.loop-root.slots.items owners;
      came = c.loop-root.came;
      asked = c.loop-root.invariant.asked owners;
      live = fails.0;
      fails = fails.1;
    }

pub returns-in-Err-clause-sources : goal.returns-in-Err-clause-sources
returns-in-Err-clause-sources g c = each_on g.S.IoSource c.args.slots.now.items c.loop-root.slots.items c.ask_if_live.new.slots.items c.loop-root.invariant.kept c.ask_if_live.ensures.sources

pub loop-root-preserved : goal.loop-root-preserved
loop-root-preserved g c = record {
  asked = λ owners. rw add-one (live_with c.loop-root.items.items c.loop-root.slots.items owners, c.loop-root.came, c.in-Ok.here, c.loop-root.invariant.asked owners, c.in-Ok.ensures.ok owners, c.either-came.ensures);
  kept = each_on g.S.IoSource c.args.slots.now.items c.loop-root.slots.items c.ask_if_live.new.slots.items c.loop-root.invariant.kept c.ask_if_live.ensures.sources;
}
