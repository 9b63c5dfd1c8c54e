use Rattle.std.proofs.Common.{ap, ◌∙◌}
use Rattle.vortex_buffer.specs.Bits.{bits_of, words_for}
use Rattle.vortex_buffer.proofs.Unset.{bits_of-unset}
use Rattle.vortex_buffer.proofs.mask.Mask.from_indices.Goals as goal

pub set_places-requires-clause-unset : goal.set_places-requires-clause-unset
set_places-requires-clause-unset c = ap (λ ws. bits_of c.args.len ws) (c.deref_mut.ensures.value ∙ c.in_ok-words.ensures) ∙ bits_of-unset c.args.len (words_for c.args.len)
