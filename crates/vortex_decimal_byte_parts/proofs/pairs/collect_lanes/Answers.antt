use Rattle.std.proofs.Common.{arith, rules, ◌<◌, ◌∙◌, ◌∷◌, [], ◌++◌, ap, length, FitsSigned}
use Rattle.std.specs.Int.{w128}
use Rattle.std.proofs.lemmas.Int.{to_z-of_z}
use Rattle.vortex_decimal_byte_parts.proofs.Growing.{all_grown, grown}
use Rattle.vortex_decimal_byte_parts.proofs.pairs.collect_lanes.Goals as goal

pub loop-i-preserved : goal.loop-i-preserved
loop-i-preserved g c =
    let lanes = g.S.IndexedSource.lanes c.args.source.now in
    let within : c.loop-i.i < length lanes = omega (arith, c.len-i-end.ensures, c.loop-i-test.true) in
    let fits : FitsSigned w128 c.get.result = search rules in
    c.in_ok-push.ensures.items
    ∙ ap (λ x. c.loop-i.lanes.items ++ x ∷ []) (to_z-of_z w128 c.get.result fits)
    ∙ grown lanes c.loop-i.lanes.items c.loop-i.i c.get.result within c.get.ensures c.loop-i.invariant

pub returns : goal.returns
returns g c =
    let lanes = g.S.IndexedSource.lanes c.args.source.now in
    all_grown lanes c.loop-i.lanes.items c.loop-i.i (omega (arith, c.loop-i-test.false, c.loop-i.auto.i-end, c.len-i-end.ensures)) c.loop-i.invariant
