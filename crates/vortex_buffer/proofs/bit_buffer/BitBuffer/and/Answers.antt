use Rattle.std.proofs.Common.{arith, sym, ap, ◌∙◌, ◌≡◌, ℕ, length, ◌&&◌, List, subst}
use Rattle.std.specs.Prelude.{bit_and}
use Rattle.std.specs.Simd.Lanes.{zip2}
use Rattle.vortex_buffer.specs.Bits.{bits_of, HoldsBits}
use Rattle.vortex_buffer.proofs.Bits.{length-bits_of, bits_of-zip2, holds-zip2, and_bitwise, zip2_as_map}
use Rattle.vortex_buffer.proofs.bit_buffer.BitBuffer.and.Goals as goal

pub and_words-requires : goal.and_words-requires
and_words-requires c =
    let x = length-bits_of c.self.inside.len c.self.inside.words.items in
    let y = length-bits_of c.other.inside.len c.other.inside.words.items in
    omega (arith, x, y, ap length c.self.view_is, ap length c.other.view_is, c.self.invariant.count, c.other.invariant.count)

-- the other buffer, at the length of the first
other_holds : (n m : ℕ) (ys : List ℕ) → n ≡ m → HoldsBits m ys → HoldsBits n ys
other_holds n m ys e h = let P : ℕ → Type 0 = λ k. HoldsBits k ys in subst P (sym e) h

pub invariant_of-result : goal.invariant_of-result
invariant_of-result c =
    let n : c.self.inside.len ≡ c.other.inside.len = omega (arith, length-bits_of c.self.inside.len c.self.inside.words.items, length-bits_of c.other.inside.len c.other.inside.words.items, ap length c.self.view_is, ap length c.other.view_is, c.requires) in
    let h = other_holds c.self.inside.len c.other.inside.len c.other.inside.words.items n c.other.invariant in
    let is : c.in_ok-words.words.items ≡ zip2 bit_and c.self.inside.words.items c.other.inside.words.items =
    c.in_ok-words.ensures ∙ sym (zip2_as_map bit_and c.as_slice.result.now c.as_slice-2.result.now) ∙ ap (λ ws. zip2 bit_and ws c.as_slice-2.result.now) c.as_slice.ensures.value ∙ ap (λ ws. zip2 bit_and c.self.inside.words.items ws) c.as_slice-2.ensures.value
    in
    rw is (holds-zip2 bit_and ◌&&◌ and_bitwise c.self.inside.len c.self.inside.words.items c.other.inside.words.items c.self.invariant h)

pub returns : goal.returns
returns c =
    let n : c.self.inside.len ≡ c.other.inside.len = omega (arith, length-bits_of c.self.inside.len c.self.inside.words.items, length-bits_of c.other.inside.len c.other.inside.words.items, ap length c.self.view_is, ap length c.other.view_is, c.requires) in
    let h = other_holds c.self.inside.len c.other.inside.len c.other.inside.words.items n c.other.invariant in
    ap (λ ws. bits_of c.self.inside.len ws) (c.in_ok-words.ensures ∙ sym (zip2_as_map bit_and c.as_slice.result.now c.as_slice-2.result.now) ∙ ap (λ ws. zip2 bit_and ws c.as_slice-2.result.now) c.as_slice.ensures.value ∙ ap (λ ws. zip2 bit_and c.self.inside.words.items ws) c.as_slice-2.ensures.value)
    ∙ bits_of-zip2 bit_and ◌&&◌ and_bitwise c.self.inside.len c.self.inside.words.items c.other.inside.words.items c.self.invariant h
    ∙ ap (λ bs. zip2 ◌&&◌ bs (bits_of c.self.inside.len c.other.inside.words.items)) c.self.view_is
    ∙ ap (λ k. zip2 ◌&&◌ c.args.self.now (bits_of k c.other.inside.words.items)) n
    ∙ ap (λ bs. zip2 ◌&&◌ c.args.self.now bs) c.other.view_is
