use Rattle.std.proofs.Common.{arith, sym, ap, ◌∙◌, ◌<◌, length}
use Rattle.std.proofs.lemmas.List.{get_or_read}
use Rattle.vortex_buffer.specs.Bits.{word_of}
use Rattle.vortex_buffer.proofs.Bits.{length-bits_of, word_of-bits_of}
use Rattle.vortex_buffer.proofs.bit_buffer.BitBuffer.word.Goals as goal

pub index-requires : goal.index-requires
index-requires c = let n = ap length c.self.view_is in omega (arith, length-bits_of c.self.inside.len c.self.inside.words.items, c.self.invariant.count, n, c.requires)

pub returns : goal.returns
returns c =
    let k : c.args.k < length c.self.inside.words.items = omega (arith, length-bits_of c.self.inside.len c.self.inside.words.items, c.self.invariant.count, ap length c.self.view_is, c.requires) in
    get_or_read c.self.inside.words.items c.args.k c.index.result.now k c.index.ensures 0
    ∙ sym (word_of-bits_of c.self.inside.len c.self.inside.words.items c.args.k c.self.invariant)
    ∙ ap (λ bs. word_of bs c.args.k) c.self.view_is
