use Rattle.std.proofs.Common.{arith, rules, ap, ◌∙◌, ◌≡◌, ◌<◌, ◌+◌, ◌≤◌, length, get_or, set}
use Rattle.vortex_compute.proofs.InPlaceSteps.{in_place_none, in_place_more, may_ask, in_place_whole}
use Rattle.vortex_compute.proofs.in_place.map_into_in_place.Goals as goal

pub loop-i-init : goal.loop-i-init
loop-i-init g c = record { lanes = in_place_none _ c.args.f g.S.IndexedSink.reads_back 0 (g.S.IndexedSource.lanes c.args.values.now); kept = g.met.S.IndexedSink.stays c.args.values.now }

pub f-answer-requires : goal.f-answer-requires
f-answer-requires g c =
    let old = g.S.IndexedSource.lanes c.args.values.now in
    let now = g.S.IndexedSource.lanes c.loop-i.values in
    let within : 0 + c.loop-i.i < length old = omega (arith, c.len-i-end.ensures) in
    let at : c.loop-i.i ≡ 0 + c.loop-i.i = omega arith in
    may_ask (λ f x. goal.F-pre g f x) _ c.args.f c.loop-i.f g.S.IndexedSink.reads_back 0 c.loop-i.i old now c.get.result within (c.get.ensures ∙ ap (λ k. get_or now k c.get.result) at) c.loop-i.invariant.lanes c.requires.callable

pub loop-i-preserved : goal.loop-i-preserved
loop-i-preserved g c =
    let old = g.S.IndexedSource.lanes c.args.values.now in
    let now = g.S.IndexedSource.lanes c.loop-i.values in
    let within : 0 + c.loop-i.i < length old = omega (arith, c.len-i-end.ensures) in
    let at : c.loop-i.i ≡ 0 + c.loop-i.i = omega arith in
    record {
      lanes =
          in_place_more _ c.args.f c.loop-i.f c.f-answer.new.self g.S.IndexedSink.reads_back 0 c.loop-i.i old now (g.S.IndexedSource.lanes c.set.new.self) c.get.result c.f-answer.result within
          (c.get.ensures ∙ ap (λ k. get_or now k c.get.result) at) (search rules) (c.set.ensures.lanes ∙ ap (λ k. set now k (g.S.IndexedSink.reads_back c.f-answer.result)) at) c.loop-i.invariant.lanes;
      kept = g.met.S.IndexedSink.goes_on c.args.values.now c.loop-i.values c.set.new.self c.loop-i.invariant.kept c.set.ensures.kept;
    }

pub returns-clause-written : goal.returns-clause-written
returns-clause-written g c =
    let old = g.S.IndexedSource.lanes c.args.values.now in
    let all : length old ≤ c.loop-i.i = omega (arith, c.len-i-end.ensures) in
    in_place_whole _ c.args.f c.loop-i.f g.S.IndexedSink.reads_back c.loop-i.i old (g.S.IndexedSource.lanes c.loop-i.values) all c.loop-i.invariant.lanes
