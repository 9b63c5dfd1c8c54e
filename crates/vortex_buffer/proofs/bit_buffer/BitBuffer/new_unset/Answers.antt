use Rattle.std.proofs.Common.{ap, ◌∙◌}
use Rattle.vortex_buffer.specs.Bits.{bits_of, words_for}
use Rattle.vortex_buffer.proofs.Unset.{bits_of-unset, holds-unset}
use Rattle.vortex_buffer.proofs.bit_buffer.BitBuffer.new_unset.Goals as goal

pub invariant_of-result : goal.invariant_of-result
invariant_of-result c = rw c.in_ok-words.ensures (holds-unset c.args.len)

pub returns : goal.returns
returns c = ap (λ ws. bits_of c.args.len ws) c.in_ok-words.ensures ∙ bits_of-unset c.args.len (words_for c.args.len)
