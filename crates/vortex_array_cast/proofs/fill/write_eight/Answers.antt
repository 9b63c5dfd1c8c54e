use Rattle.std.proofs.Common.{arith, ◌<◌, ◌≡◌, ◌+◌, ◌/◌, ◌%◌, ◌^◌, ◌∙◌, ap, bit_and, length, set, sym, take}
use Rattle.std.specs.Int.{bit_at}
use Rattle.std.proofs.lemmas.Nat.{shr-shr}
use Rattle.std.proofs.lemmas.Nat.Bits.{shr_and_one}
use Rattle.vortex_array_cast.specs.Filled.{filled_in}
use Rattle.vortex_array_cast.proofs.FilledWords.{write-more}
use Rattle.vortex_array_cast.proofs.fill.write_eight.Goals as goal

pub loop-i-preserved : goal.loop-i-preserved
loop-i-preserved g c =
    let word = c.args.word in
    let at = c.args.at in
    let i = c.loop-i.i in
    let all = filled_in c.args.fill word c.args.group.now in
    let bit : bit_and (word / 2 ^ at / 2 ^ i) 1 ≡ bit_at word (at + i) = shr_and_one (word / 2 ^ at) i ∙ ap (λ m. m % 2) (shr-shr word at i) in
    let space : at + i < length c.loop-i.room = omega (arith, c.requires.room, c.requires.inside, c.requires.whole, c.loop-i.auto.room) in
    let next : at + (i + 1) ≡ at + i + 1 = omega arith in
    ap (λ n. take n (set c.loop-i.room (at + i) c.item_or.result)) next
    ∙ write-more c.args.fill word c.args.group.now c.loop-i.room (at + i) (bit_and (word / 2 ^ at / 2 ^ i) 1) c.index-group-at.result c.item_or.result (omega arith) space c.index-group-at.is bit c.item_or.ensures c.loop-i.invariant
    ∙ ap (λ n. take n all) (sym next)
