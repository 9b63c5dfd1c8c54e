use Rattle.std.proofs.Common.{◌∙◌, FitsSigned, ap, replicate, rules}
use Rattle.std.specs.Int.{w128}
use Rattle.std.proofs.lemmas.Int.{to_z-of_z}
use Rattle.vortex_buffer.proofs.Bits.{map-replicate}
use Rattle.vortex_decimal_byte_parts.proofs.numbers.equal_items.Goals as goal

pub returns : goal.returns
returns g c =
    let fits : FitsSigned w128 c.args.number = search rules in
    rw (c.from_vec.ensures, c.in_ok-items-in-Some.ensures)
    (map-replicate g.T.NativeValue.number c.args.len c.in-Some.item ∙ ap (replicate c.args.len) (c.in-Some.ensures.value ∙ to_z-of_z w128 c.args.number fits))
