use Rattle.std.proofs.Common.{arith, ◌≡◌, ◌-◌, ◌∙◌, ap, refl, length}
use Rattle.vortex_buffer.specs.Bits.{bits_of, words_for}
use Rattle.vortex_buffer.proofs.Bits.{div_ceil-64}
use Rattle.vortex_array_rows.proofs.SlicedBits.{part_of_words, words_step}
use Rattle.vortex_array_rows.proofs.bit_rows.slice_bits.Goals as goal

pub loop-k-preserved : goal.loop-k-preserved
loop-k-preserved c =
    let n = c.args.end - c.args.start in
    words_step c.args.bits.now c.args.start c.loop-k.k c.word_at.result c.loop-k.words.items c.push.new.self.items (omega (arith, c.loop-k-test.true, c.div_ceil-count.ensures, div_ceil-64 n, c.requires.within)) c.word_at.ensures c.loop-k.invariant c.in_ok-push.ensures.items

pub from_words-requires : goal.from_words-requires
from_words-requires c =
    let n = c.args.end - c.args.start in
    let all : c.loop-k.k ≡ words_for n = omega (arith, c.loop-k-test.false, c.loop-k.auto.k-end, c.div_ceil-count.ensures, div_ceil-64 n) in
    let part = part_of_words c.args.bits.now c.args.start c.args.end n c.loop-k.k c.loop-k.words.items c.requires.order c.requires.within refl all c.loop-k.invariant in
    omega (arith, part.0, ap length c.from_vec.ensures)

pub returns : goal.returns
returns c =
    let n = c.args.end - c.args.start in
    let all : c.loop-k.k ≡ words_for n = omega (arith, c.loop-k-test.false, c.loop-k.auto.k-end, c.div_ceil-count.ensures, div_ceil-64 n) in
    let part = part_of_words c.args.bits.now c.args.start c.args.end n c.loop-k.k c.loop-k.words.items c.requires.order c.requires.within refl all c.loop-k.invariant in
    record { ok = c.from_words.ensures.bits ∙ ap (bits_of n) c.from_vec.ensures ∙ part.1 }
