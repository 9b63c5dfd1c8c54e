use Rattle.std.proofs.Common.{arith, rules, ◌<◌, ◌≡◌, ◌+◌, ◌*◌, ◌/◌, length, ap, ◌∙◌, cond}
use Rattle.vortex_compute.proofs.MapSteps.{valid_none, valid_more, set_bit}
use Rattle.vortex_compute.proofs.mapping.map_valid_group.Goals as goal

pub loop-bit-init : goal.loop-bit-init
loop-bit-init g c = valid_none _ g.R.LaneDefault.its_default (g.S.IndexedSource.lanes c.args.values.now) c.args.mask.now c.args.base c.args.out.now

pub loop-bit-preserved : goal.loop-bit-preserved
loop-bit-preserved g c =
    let lanes = g.S.IndexedSource.lanes c.args.values.now in
    let small : c.loop-bit.bit < 64 = omega arith in
    let within : c.args.base + c.loop-bit.bit < length lanes = omega arith in
    let masked : c.args.base + c.loop-bit.bit < length c.args.mask.now = omega (arith, c.requires.masked) in
    let room : c.args.base + c.loop-bit.bit < length c.loop-bit.out = omega (arith, c.requires.room, c.loop-bit.auto.out) in
    let at : 64 * (c.args.base / 64) + c.loop-bit.bit ≡ c.args.base + c.loop-bit.bit = omega (arith, c.requires.aligned) in
    valid_more _ g.R.LaneDefault.its_default lanes c.args.mask.now c.args.base c.loop-bit.bit c.args.out.now c.loop-bit.out c.get.result c.f-answer.result c.where_set.result within masked room c.get.ensures (search rules)
    (c.where_set.ensures ∙ ap (λ b. cond b c.f-answer.result g.R.LaneDefault.its_default) (set_bit c.args.mask.now (c.args.base / 64) c.loop-bit.bit (c.args.base + c.loop-bit.bit) c.word-valid.result small at c.word-valid.ensures))
    c.loop-bit.invariant
