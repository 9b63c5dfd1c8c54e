use Rattle.std.proofs.Common.{arith, ◌<◌, ◌+◌, length, drop, sym, ◌∙◌, ap}
use Rattle.std.specs.Option.{unwrap_or}
use Rattle.std.proofs.lemmas.List.{length-drop, get_or-drop}
use Rattle.vortex_compute.proofs.Failures.{group_step_as}
use Rattle.vortex_compute.proofs.refusing.try_group.Goals as goal

pub loop-bit-preserved : goal.loop-bit-preserved
loop-bit-preserved g c =
    let lanes = g.S.IndexedSource.lanes c.args.values.now in
    let small : c.loop-bit.bit < 64 = omega arith in
    let within : c.loop-bit.bit < length (drop c.args.base lanes) = omega (arith, length-drop c.args.base lanes) in
    let room : c.args.base + c.loop-bit.bit < length c.loop-bit.out = omega arith in
    group_step_as _ g.R.LaneDefault.its_default (drop c.args.base lanes) c.args.base c.loop-bit.bit c.loop-bit.failed c.args.out.now c.loop-bit.out c.get.result c.f-answer.result c.unwrap_or.result c.is_none.result
    (c.unwrap_or.ensures ∙ ap (unwrap_or c.f-answer.result) c.lane_default.ensures) c.is_none.ensures small within
    (c.get.ensures ∙ sym (get_or-drop c.args.base lanes c.loop-bit.bit c.get.result)) room c.loop-bit.invariant c.f-answer.ensures
