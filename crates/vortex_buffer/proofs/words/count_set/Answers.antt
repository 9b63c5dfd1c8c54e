use Rattle.std.proofs.Common.{arith, refl, sym, ap, ◌∙◌, ◌≤◌, ◌+◌, ◌*◌, length, take}
use Rattle.std.specs.List.{count_by}
use Rattle.std.specs.Prelude.{count_ones}
use Rattle.std.proofs.lemmas.List.Sums.{count_by-le-length}
use Rattle.std.proofs.lemmas.List.{length-take, take_all}
use Rattle.vortex_buffer.specs.Bits.{bits_of}
use Rattle.vortex_buffer.proofs.Bits.{word_of-bits_of, length-bits_of, count-more}
use Rattle.vortex_buffer.proofs.words.count_set.Goals as goal

pub overflow_add-total : goal.overflow_add-total
overflow_add-total c =
    let bs = bits_of c.args.len c.args.words.now in
    let w = word_of-bits_of c.args.len c.args.words.now c.loop-word.word-index c.requires in
    let m = count-more bs c.loop-word.word-index (c.loop-word.word-index + 1) refl in
    let l = count_by-le-length (λ b. b) (take (64 * (c.loop-word.word-index + 1)) bs) in
    let t = length-take (64 * (c.loop-word.word-index + 1)) bs in
    let n = length-bits_of c.args.len c.args.words.now in
    record { fits = omega (arith, ap count_ones w, m, l, t, n, c.loop-word.invariant, c.ranges.len.fits) }

pub loop-word-preserved : goal.loop-word-preserved
loop-word-preserved c =
    let bs = bits_of c.args.len c.args.words.now in
    let w = word_of-bits_of c.args.len c.args.words.now c.loop-word.word-index c.requires in
    rw c.loop-word.invariant (ap (λ x. count_by (λ b. b) (take (64 * c.loop-word.word-index) bs) + count_ones x) (sym w) ∙ sym (count-more bs c.loop-word.word-index (c.loop-word.word-index + 1) refl))

pub returns : goal.returns
returns c =
    let bs = bits_of c.args.len c.args.words.now in
    let all : length bs ≤ 64 * c.loop-word.word-index = omega (arith, length-bits_of c.args.len c.args.words.now, c.requires.count, c.loop-word-test.false) in
    c.loop-word.invariant ∙ ap (count_by (λ b. b)) (take_all _ bs all)
