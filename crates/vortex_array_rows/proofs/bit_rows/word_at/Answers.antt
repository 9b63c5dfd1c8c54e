use Rattle.std.proofs.Common.{arith, ◌≡◌, ◌+◌, ◌*◌, ◌/◌, ◌%◌, ◌^◌, ◌∙◌, ap}
use Rattle.vortex_buffer.specs.Bits.{word_of}
use Rattle.vortex_buffer.proofs.Bits.{word_of-lt}
use Rattle.vortex_array_rows.proofs.SlicedBits.{word_between}
use Rattle.vortex_array_rows.proofs.bit_rows.word_at.Goals as goal

pub returns : goal.returns
returns c =
    let bits = c.args.bits.now in
    let k = c.args.place / 64 in
    let low = c.word_or_unset-low.result in
    let high = c.word_or_unset-high.result in
    let both : low + high * 2 ^ 64 % 2 ^ 128 ≡ word_of bits (k + 1) * 2 ^ 64 + word_of bits k =
    omega (arith, c.word_or_unset-low.ensures, c.word_or_unset-high.ensures, word_of-lt bits (k + 1))
    in
    ap (λ n. n / 2 ^ (c.args.place % 64) % 2 ^ 64) both ∙ word_between bits c.args.place
