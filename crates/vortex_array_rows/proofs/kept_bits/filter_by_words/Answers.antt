use Rattle.std.proofs.Common.{arith, ◌≤◌, ◌*◌, ◌∙◌, ap, length}
use Rattle.vortex_buffer.specs.Bits.{bits_of}
use Rattle.vortex_buffer.proofs.Bits.{div_ceil-64}
use Rattle.vortex_array_rows.proofs.PackedBits.{packs_step, all_packed}
use Rattle.vortex_array_rows.proofs.kept_bits.filter_by_words.Goals as goal

pub loop-k-preserved : goal.loop-k-preserved
loop-k-preserved c =
    packs_step c.args.set.now c.args.bits.now c.loop-k.k c.word.result c.word-in-loop-k.result c.kept_of_word-kept.result.0 c.kept_of_word-kept.result.1 c.loop-k.words.items c.push_bits.new.words.items c.loop-k.last.bits c.loop-k.last.len c.in_ok-last.last.bits c.in_ok-last.last.len c.requires.same_length c.word.ensures c.word-in-loop-k.ensures c.kept_of_word-kept.ensures.kept c.in_ok-last.ensures.packed c.loop-k.invariant

pub from_words-requires : goal.from_words-requires
from_words-requires c =
    let past : length c.args.bits.now ≤ 64 * c.loop-k.k = omega (arith, c.loop-k-test.false, c.div_ceil-k-end.ensures, c.len.ensures, div_ceil-64 (length c.args.bits.now)) in
    let all = all_packed c.args.set.now c.args.bits.now c.loop-k.k c.loop-k.words.items c.loop-k.last.bits c.loop-k.last.len c.count-count.result c.requires.same_length past c.count-count.ensures c.loop-k.invariant in
    omega (arith, all.0, ap length c.from_vec.ensures, ap length c.in_ok-push.ensures.items)

pub returns : goal.returns
returns c =
    let past : length c.args.bits.now ≤ 64 * c.loop-k.k = omega (arith, c.loop-k-test.false, c.div_ceil-k-end.ensures, c.len.ensures, div_ceil-64 (length c.args.bits.now)) in
    let all = all_packed c.args.set.now c.args.bits.now c.loop-k.k c.loop-k.words.items c.loop-k.last.bits c.loop-k.last.len c.count-count.result c.requires.same_length past c.count-count.ensures c.loop-k.invariant in
    record { ok = c.from_words.ensures.bits ∙ ap (bits_of c.count-count.result) (c.from_vec.ensures ∙ c.in_ok-push.ensures.items) ∙ all.1 }
