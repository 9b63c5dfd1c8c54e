use Rattle.std.proofs.Common.{arith, ◌<◌, length, drop, sym, ◌∙◌, rules}
use Rattle.std.proofs.lemmas.List.{length-drop, get_or-drop}
use Rattle.vortex_compute.proofs.WordSteps.{answer_more}
use Rattle.vortex_compute.proofs.packing.pack_group.Goals as goal

pub loop-bit-preserved : goal.loop-bit-preserved
loop-bit-preserved g c =
    let lanes = g.S.IndexedSource.lanes c.args.values.now in
    let small : c.loop-bit.bit < 64 = omega arith in
    let within : c.loop-bit.bit < length (drop c.args.base lanes) = omega (arith, length-drop c.args.base lanes) in
    answer_more _ (drop c.args.base lanes) c.loop-bit.bit c.loop-bit.word c.get.result c.f.result small within
    (c.get.ensures ∙ sym (get_or-drop c.args.base lanes c.loop-bit.bit c.get.result)) c.loop-bit.invariant (search rules)
