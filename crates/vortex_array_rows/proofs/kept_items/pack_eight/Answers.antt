use Rattle.std.proofs.Common.{arith, ◌<◌, ◌≡◌, ◌+◌, ◌/◌, ◌^◌, ◌∙◌, ap, bit_and, length, take}
use Rattle.std.specs.Int.{bit_at}
use Rattle.std.proofs.lemmas.Nat.Bits.{shr_and_one, bit_at-lt}
use Rattle.vortex_array_rows.specs.Kept.{kept_in}
use Rattle.vortex_array_rows.proofs.KeptWords.{pack_more, shifted_bit}
use Rattle.vortex_array_rows.proofs.kept_items.pack_eight.Goals as goal

pub loop-i-preserved : goal.loop-i-preserved
loop-i-preserved g c =
    let word = c.args.word in
    let at = c.args.at in
    let i = c.loop-i.i in
    let bit : bit_and (word / 2 ^ at / 2 ^ i) 1 ≡ bit_at word (at + i) = shr_and_one (word / 2 ^ at) i ∙ shifted_bit word at i in
    let space : c.loop-i.count < length c.loop-i.room = omega (arith, c.requires.room, c.requires.inside, c.requires.whole, c.loop-i.auto.room, c.loop-i.invariant.few) in
    let next : at + i + 1 ≡ at + (i + 1) = omega arith in
    record {
      few = omega (arith, bit, bit_at-lt word (at + i), c.loop-i.invariant.few);
      packed = pack_more word c.args.group.now c.loop-i.room (at + i) c.loop-i.count (bit_and (word / 2 ^ at / 2 ^ i) 1) c.index-group-at.result (omega arith) space c.index-group-at.is bit c.loop-i.invariant.packed
          ∙ ap (λ n. kept_in word (take n c.args.group.now)) next;
    }
