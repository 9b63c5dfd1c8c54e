use Rattle.std.proofs.Common.{arith, ◌<◌, ◌≡◌, ◌/◌, ◌^◌, bit_and, length}
use Rattle.std.specs.Int.{bit_at}
use Rattle.std.proofs.lemmas.Nat.Bits.{shr_and_one, bit_at-lt}
use Rattle.vortex_array_rows.proofs.KeptWords.{pack_more}
use Rattle.vortex_array_rows.proofs.kept_items.pack_some.Goals as goal

pub loop-i-preserved : goal.loop-i-preserved
loop-i-preserved g c =
    let bit : bit_and (c.args.word / 2 ^ c.loop-i.i) 1 ≡ bit_at c.args.word c.loop-i.i = shr_and_one c.args.word c.loop-i.i in
    let space : c.loop-i.count < length c.loop-i.room = omega (arith, c.requires.room, c.requires.small, c.loop-i.auto.room, c.loop-i.invariant.few) in
    record {
      few = omega (arith, bit, bit_at-lt c.args.word c.loop-i.i, c.loop-i.invariant.few);
      packed = pack_more c.args.word c.args.group.now c.loop-i.room c.loop-i.i c.loop-i.count (bit_and (c.args.word / 2 ^ c.loop-i.i) 1) c.index-group-i.result (omega arith) space c.index-group-i.is bit c.loop-i.invariant.packed;
    }
