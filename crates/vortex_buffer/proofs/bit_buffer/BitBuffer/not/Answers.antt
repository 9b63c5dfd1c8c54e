use Rattle.std.proofs.Common.{ap, ◌∙◌, not, map}
use Rattle.std.specs.Int.{bit_not, w64}
use Rattle.std.proofs.lemmas.List.{with_items_is}
use Rattle.vortex_buffer.specs.Bits.{bits_of}
use Rattle.vortex_buffer.proofs.Bits.{bits_of-not}
use Rattle.vortex_buffer.proofs.bit_buffer.BitBuffer.not.Goals as goal

pub returns : goal.returns
returns c =
    ap (λ ws. bits_of c.self.inside.len ws) (with_items_is c.in_ok-words.words c.clear_spare.new.words (c.clear_spare.auto.words ∙ c.deref_mut.ensures.len))
    ∙ c.clear_spare.ensures.bits
    ∙ ap (λ ws. bits_of c.self.inside.len ws) (c.deref_mut.ensures.value ∙ c.in_ok-words.ensures ∙ ap (map (λ x. bit_not w64 x)) c.as_slice.ensures.value)
    ∙ bits_of-not c.self.inside.len c.self.inside.words.items c.self.invariant
    ∙ ap (map not) c.self.view_is
