use Rattle.std.proofs.Common.{arith, rules, ◌≡◌, ◌<◌, ◌∙◌, ap, length, get_or, FitsSigned}
use Rattle.std.specs.Int.{w64, w128}
use Rattle.std.specs.List.{zip}
use Rattle.std.proofs.lemmas.Int.{to_z-of_z}
use Rattle.std.proofs.lemmas.List.{get_or_default}
use Rattle.std.proofs.lemmas.Slice.Zip.{length-zip}
use Rattle.vortex_compute.proofs.Pairs.{pair_read}
use Rattle.vortex_decimal_byte_parts.specs.Number.{value}
use Rattle.vortex_decimal_byte_parts.specs.Split.{IsNumberOf}
use Rattle.vortex_decimal_byte_parts.proofs.Growing.{each_all, each_grown}
use Rattle.vortex_decimal_byte_parts.proofs.assemble.assemble_wide_decimal.Goals as goal

pub loop-i-preserved : goal.loop-i-preserved
loop-i-preserved g c =
    let msp = c.args.msp.now in
    let lower = c.args.lower.now in
    let i = c.loop-i.i in
    let m = c.index-msp-i.result in
    let l = get_or lower i 0 in
    let here : i < length msp = omega (arith, c.loop-i-test.true) in
    let beside : i < length lower = omega (arith, here, c.requires.same_length) in
    let within : i < length (zip msp lower) = omega (arith, here, beside, length-zip msp lower) in
    let read : (m, l) ≡ get_or (zip msp lower) i (m, l) = pair_read msp lower i m l here beside c.index-msp-i.is (get_or_default lower i 0 l beside) in
    let fits : FitsSigned w128 c.number_of.result = search rules in
    let whole : FitsSigned w64 c.into.result = search rules in
    let number : IsNumberOf g.M.Into.converts (m, l) c.number_of.result = record { high = c.into.result; converted = c.into.ensures; number = c.number_of.ensures ∙ ap (λ h. value h l) (to_z-of_z w64 c.into.result whole) } in
    rw (c.in_ok-push.ensures.items, to_z-of_z w128 c.number_of.result fits)
    (each_grown (IsNumberOf g.M.Into.converts) (zip msp lower) c.loop-i.numbers.items i (m, l) c.number_of.result within read c.loop-i.invariant number)

pub returns : goal.returns
returns g c =
    let msp = c.args.msp.now in
    let lower = c.args.lower.now in
    rw c.from_vec.ensures
    (each_all (IsNumberOf g.M.Into.converts) (zip msp lower) c.loop-i.numbers.items c.loop-i.i (omega (arith, c.loop-i-test.false, c.loop-i.auto.i-end, c.requires.same_length, length-zip msp lower)) c.loop-i.invariant)
