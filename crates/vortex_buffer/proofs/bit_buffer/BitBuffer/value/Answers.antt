use Rattle.std.proofs.Common.{arith, sym, ap, ◌∙◌, ◌≡◌, ◌<◌, ◌/◌, false, length, get_or}
use Rattle.std.proofs.lemmas.List.{get_or_read}
use Rattle.std.proofs.lemmas.Nat.Bits.{shr_and_one}
use Rattle.vortex_buffer.proofs.Bits.{length-bits_of, get_or-bits_of}
use Rattle.vortex_buffer.proofs.bit_buffer.BitBuffer.value.Goals as goal

pub index-requires : goal.index-requires
index-requires c = let n = ap length c.self.view_is in omega (arith, length-bits_of c.self.inside.len c.self.inside.words.items, c.self.invariant.count, n, c.requires)

pub returns : goal.returns
returns c =
    let k : c.args.i / 64 < length c.self.inside.words.items = omega (arith, length-bits_of c.self.inside.len c.self.inside.words.items, c.self.invariant.count, ap length c.self.view_is, c.requires) in
    let w : c.index.result.now ≡ get_or c.self.inside.words.items (c.args.i / 64) 0 = get_or_read c.self.inside.words.items (c.args.i / 64) c.index.result.now k c.index.ensures 0 in
    let n = ap length c.self.view_is in
    let i : c.args.i < c.self.inside.len = omega (arith, length-bits_of c.self.inside.len c.self.inside.words.items, n, c.requires) in
    rw (shr_and_one, w) (sym (get_or-bits_of c.self.inside.len c.self.inside.words.items c.args.i i) ∙ ap (λ bs. get_or bs c.args.i false) c.self.view_is)
