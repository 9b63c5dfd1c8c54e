use Rattle.std.proofs.Common.{◌+◌, ◌*◌, refl, arith}
use Rattle.std.specs.Int.{trailing_zeros, w64}
use Rattle.vortex_buffer.proofs.Bits.{div_ceil-64}
use Rattle.vortex_array_rows.proofs.FirstSet.{first_is_set, no_word, none_before, set_within}
use Rattle.vortex_array_rows.proofs.set_bits.first_set.Goals as goal

pub returns-then-word-ne0-clause-within : goal.returns-then-word-ne0-clause-within
returns-then-word-ne0-clause-within c =
    let bits = c.args.bits.now in
    let word = c.word-word.result in
    let first = 64 * c.loop-k.k + trailing_zeros w64 word in
    set_within bits first (first_is_set bits c.loop-k.k word first c.word-word.ensures (omega (arith, c.if-word-ne0.true)) refl)

pub returns-then-word-ne0-clause-set : goal.returns-then-word-ne0-clause-set
returns-then-word-ne0-clause-set c =
    let word = c.word-word.result in
    first_is_set c.args.bits.now c.loop-k.k word (64 * c.loop-k.k + trailing_zeros w64 word) c.word-word.ensures (omega (arith, c.if-word-ne0.true)) refl

pub returns-then-word-ne0-clause-before : goal.returns-then-word-ne0-clause-before
returns-then-word-ne0-clause-before c =
    let word = c.word-word.result in
    none_before c.args.bits.now c.loop-k.k word (64 * c.loop-k.k + trailing_zeros w64 word) c.loop-k.invariant c.word-word.ensures (omega (arith, c.if-word-ne0.true)) refl

pub returns-clause-none : goal.returns-clause-none
returns-clause-none c =
    no_word c.args.bits.now c.loop-k.k c.loop-k.invariant (omega (arith, c.loop-k-test.false, c.div_ceil-k-end.ensures, div_ceil-64 c.len.result, c.len.ensures))
