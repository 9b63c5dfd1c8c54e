use Rattle.std.proofs.Common.{arith, rules, ◌<◌, ◌∙◌, ap, false, length, get_or, FitsSigned}
use Rattle.std.specs.Int.{w64}
use Rattle.std.proofs.lemmas.Int.{to_z-of_z}
use Rattle.vortex_buffer.specs.Mask.{mask_bits}
use Rattle.vortex_decimal_byte_parts.proofs.Growing.{split_all, split_more}
use Rattle.vortex_decimal_byte_parts.proofs.split.split_wide.Goals as goal

pub loop-i-preserved : goal.loop-i-preserved
loop-i-preserved g c =
    let values = c.args.values.now in
    let bits = mask_bits c.args.validity.now in
    let i = c.loop-i.i in
    let high = c.parts_if-high.result.0 in
    let fits : FitsSigned w64 high = search rules in
    let here : i < length values = omega (arith, c.loop-i-test.true) in
    rw (c.in_ok-push.ensures.items, c.in_ok-push-2.ensures.items, to_z-of_z w64 high fits)
    (split_more _ values bits i c.loop-i.msp.items c.loop-i.lower.items c.index-values-i.result c.value.result high c.parts_if-high.result.1 here c.requires.same_length c.index-values-i.is
    (c.value.ensures ∙ ap (λ bs. get_or bs i false) c.in_ok-bits.ensures) c.loop-i.invariant c.parts_if-high.ensures)

pub returns : goal.returns
returns g c =
    rw (c.from_vec.ensures, c.from_vec-2.ensures)
    (split_all _ c.args.values.now (mask_bits c.args.validity.now) c.loop-i.i c.loop-i.msp.items c.loop-i.lower.items (omega (arith, c.loop-i-test.false, c.loop-i.auto.i-end)) c.requires.same_length c.loop-i.invariant)
