use Rattle.std.proofs.Common.{ap, ◌∙◌}
use Rattle.vortex_buffer.specs.Bits.{bits_of}
use Rattle.vortex_buffer.proofs.Bits.{length-bits_of}
use Rattle.vortex_buffer.proofs.bit_buffer.BitBuffer.from_words.Goals as goal

pub returns-clause-bits : goal.returns-clause-bits
returns-clause-bits c = c.keep_bits.ensures.bits ∙ ap (λ ws. bits_of c.args.len ws) c.into_vec-words.ensures

pub returns-clause-len : goal.returns-clause-len
returns-clause-len c = length-bits_of c.args.len _
