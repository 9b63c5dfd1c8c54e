use Rattle.std.proofs.Common.{ap, take, ◌∙◌}
use Rattle.std.proofs.lemmas.List.{with_items_is}
use Rattle.vortex_buffer.specs.Bits.{bits_of}
use Rattle.vortex_buffer.proofs.Bits.{bits_of-take, div_ceil-64}
use Rattle.vortex_buffer.proofs.words.keep_bits.Goals as goal

pub returns-clause-bits : goal.returns-clause-bits
returns-clause-bits c =
    ap (λ ws. bits_of c.args.len ws) (with_items_is c.truncate.new.self c.clear_spare.new.words (c.clear_spare.auto.words ∙ c.deref_mut.ensures.len))
    ∙ c.clear_spare.ensures.bits
    ∙ ap (λ ws. bits_of c.args.len ws) (c.deref_mut.ensures.value ∙ c.truncate.ensures.items)
    ∙ ap (λ k. bits_of c.args.len (take k c.args.words.now.items)) (c.div_ceil.ensures ∙ div_ceil-64 c.args.len)
    ∙ bits_of-take c.args.len c.args.words.now.items
