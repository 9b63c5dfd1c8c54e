use Rattle.std.proofs.Common.{arith, rules, ap, ◌∙◌, ◌≡◌, ◌<◌, ◌+◌, length, unwrap_or}
use Rattle.vortex_compute.proofs.InPlaceSteps.{tried_start, tried_more, may_ask}
use Rattle.vortex_compute.proofs.in_place.try_group_in_place.Goals as goal

pub loop-bit-init : goal.loop-bit-init
loop-bit-init g c = record {
  lanes = tried_start _ c.args.f.now (λ answer. g.S.IndexedSink.reads_back (unwrap_or answer g.S.Write.LaneDefault.its_default)) c.args.base (g.S.IndexedSource.lanes c.args.values.now);
  kept = g.met.S.IndexedSink.stays c.args.values.now;
}

pub get-requires : goal.get-requires
get-requires g c = omega (arith, c.loop-bit.invariant.lanes.lanes.long)

pub f-answer-requires : goal.f-answer-requires
f-answer-requires g c =
    let old = g.S.IndexedSource.lanes c.args.values.now in
    let now = g.S.IndexedSource.lanes c.loop-bit.values in
    let within : c.args.base + c.loop-bit.bit < length old = omega arith in
    may_ask (λ f x. goal.F-pre g f x) _ c.args.f.now c.loop-bit.f (λ answer. g.S.IndexedSink.reads_back (unwrap_or answer g.S.Write.LaneDefault.its_default)) c.args.base c.loop-bit.bit old now c.get.result within c.get.ensures c.loop-bit.invariant.lanes.lanes c.requires.callable

pub set-requires : goal.set-requires
set-requires g c = omega (arith, c.loop-bit.invariant.lanes.lanes.long)

pub loop-bit-preserved : goal.loop-bit-preserved
loop-bit-preserved g c =
    let old = g.S.IndexedSource.lanes c.args.values.now in
    let now = g.S.IndexedSource.lanes c.loop-bit.values in
    let small : c.loop-bit.bit < 64 = omega arith in
    let within : c.args.base + c.loop-bit.bit < length old = omega arith in
    record {
      lanes =
          tried_more _ c.args.f.now c.loop-bit.f c.f-answer.new.self g.S.IndexedSink.reads_back g.S.Write.LaneDefault.its_default c.args.base c.loop-bit.bit c.loop-bit.failed old now (g.S.IndexedSource.lanes c.set.new.self) c.get.result c.f-answer.result c.unwrap_or.result c.is_none.result
          (c.unwrap_or.ensures ∙ ap (unwrap_or c.f-answer.result) c.lane_default.ensures) c.is_none.ensures small within c.get.ensures (search rules) c.set.ensures.lanes c.loop-bit.invariant.lanes;
      kept = g.met.S.IndexedSink.goes_on c.args.values.now c.loop-bit.values c.set.new.self c.loop-bit.invariant.kept c.set.ensures.kept;
    }

pub returns-clause-lanes : goal.returns-clause-lanes
returns-clause-lanes g c = let all : c.loop-bit.bit ≡ c.args.count = omega arith in rw all at c.loop-bit.invariant.lanes

pub returns-clause-kept : goal.returns-clause-kept
returns-clause-kept g c = c.loop-bit.invariant.kept
