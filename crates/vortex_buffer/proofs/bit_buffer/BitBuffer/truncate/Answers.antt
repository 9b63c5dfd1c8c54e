use Rattle.std.proofs.Common.{arith, ap, length, take, ◌≤◌, ◌∙◌}
use Rattle.vortex_buffer.proofs.Bits.{length-bits_of}
use Rattle.vortex_buffer.proofs.Growing.{bits_of-first}
use Rattle.vortex_buffer.proofs.bit_buffer.BitBuffer.truncate.Goals as goal

pub keep_bits-requires : goal.keep_bits-requires
keep_bits-requires c = omega (arith, length-bits_of c.self.inside.len c.self.inside.words.items, c.self.invariant.count, ap length c.self.view_is, c.requires)

pub returns : goal.returns
returns c =
    let within : c.args.len ≤ c.self.inside.len = omega (arith, length-bits_of c.self.inside.len c.self.inside.words.items, ap length c.self.view_is, c.requires) in
    c.keep_bits.ensures.bits ∙ bits_of-first c.args.len c.self.inside.len c.self.inside.words.items within ∙ ap (take c.args.len) c.self.view_is
