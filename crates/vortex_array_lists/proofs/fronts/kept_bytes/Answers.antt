use Rattle.std.proofs.Common.{arith, ◌≡◌, ◌-◌, ◌*◌, ◌^◌}
use Rattle.std.proofs.lemmas.Nat.Bits.{and_high_mask}
use Rattle.vortex_array_lists.proofs.FrontOrder.{mask-is}
use Rattle.vortex_array_lists.proofs.fronts.kept_bytes.Goals as goal

pub returns : goal.returns
returns c =
    let k = 64 - 8 * c.args.count in
    let mask : 18446744073709551615 - c.bits_behind.result ≡ 2 ^ 64 - 2 ^ k = mask-is k c.bits_behind.result c.bits_behind.ensures (omega arith) in
    rw mask (and_high_mask 64 k (omega arith) c.args.word c.ranges.word.fits)
