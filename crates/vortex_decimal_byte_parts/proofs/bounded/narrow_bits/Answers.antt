use Rattle.std.proofs.Common.{◌≡◌, ◌∙◌, FitsSigned, ap, replicate, rules, sym}
use Rattle.std.specs.Int.{w128}
use Rattle.std.proofs.lemmas.Int.{to_z-of_z}
use Rattle.vortex_buffer.proofs.Bits.{map-replicate}
use Rattle.vortex_array_types.specs.Row.{TypedRow}
use Rattle.vortex_array.specs.Single.{number_held}
use Rattle.vortex_decimal_byte_parts.specs.Held.{lies_in}
use Rattle.vortex_decimal_byte_parts.proofs.bounded.narrow_bits.Goals as goal

pub returns-in_ok-bits-in-Constant : goal.returns-in_ok-bits-in-Constant
returns-in_ok-bits-in-Constant c =
    let k = c.in-Constant.constant in
    let i = c.args.interval in
    let fits : FitsSigned w128 c.number_in.result = search rules in
    let bit : c.is_in-bit.result ≡ lies_in i (number_held k.scalar.value) =
    c.is_in-bit.ensures ∙ ap (lies_in i) (to_z-of_z w128 c.number_in.result fits ∙ c.number_in.ensures.number ∙ ap (λ (s : TypedRow). number_held s.value) c.scalar.ensures) in
    rw c.in-Constant.is
    (c.in_ok-bits-in-Constant.ensures
    ∙ ap (λ n. replicate n c.is_in-bit.result) c.len.ensures.count
    ∙ ap (replicate k.len) bit
    ∙ sym (map-replicate (lies_in i) k.len (number_held k.scalar.value)))
