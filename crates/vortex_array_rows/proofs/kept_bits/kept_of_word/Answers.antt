use Rattle.std.proofs.Common.{arith, ◌≡◌, ◌<◌, ◌+◌, ◌-◌, ◌*◌, ◌/◌, ◌%◌, ◌^◌, bit_and, length, refl, sym, subst}
use Rattle.std.specs.Int.{bit_at}
use Rattle.std.specs.Int.Count.{count_trailing_zeros}
use Rattle.std.proofs.lemmas.Nat.{shl_whole}
use Rattle.std.proofs.lemmas.Nat.Bits.{shr_and_one, bit_at-lt}
use Rattle.vortex_array_rows.proofs.KeptWords.{lowest, shorter}
use Rattle.vortex_array_rows.proofs.PackedBits.{Walk, walk_next, walk_end, bit_more}
use Rattle.vortex_array_rows.proofs.kept_bits.kept_of_word.Goals as goal

pub overflow_shr-packed : goal.overflow_shr-packed
overflow_shr-packed c =
    let low = lowest c.loop-rest.rest (64 - c.loop-rest.at) (omega (arith, c.loop-rest-test.true)) c.loop-rest.invariant.rest_small (omega arith) in
    omega (arith, low.within)

pub loop-rest-preserved : goal.loop-rest-preserved
loop-rest-preserved c =
    let rest = c.loop-rest.rest in
    let at = c.loop-rest.at in
    let count = c.loop-rest.count in
    let packed = c.loop-rest.packed in
    let t = count_trailing_zeros 64 c.loop-rest.rest in
    let place = c.loop-rest.at + count_trailing_zeros 64 c.loop-rest.rest in
    let low = lowest c.loop-rest.rest (64 - c.loop-rest.at) (omega (arith, c.loop-rest-test.true)) c.loop-rest.invariant.rest_small (omega arith) in
    let bit = bit_and (c.args.bits / 2 ^ (c.loop-rest.at + count_trailing_zeros 64 c.loop-rest.rest)) 1 in
    let read : bit ≡ bit_at c.args.bits place = shr_and_one c.args.bits place in
    let truth : bit < 2 = omega (arith, read, bit_at-lt c.args.bits place) in
    let whole : bit * 2 ^ count % 2 ^ 64 ≡ bit * 2 ^ count = shl_whole bit 1 count 64 truth (omega (arith, low.within, c.loop-rest.invariant.few)) in
    let left : 64 - at - (t + 1) ≡ 64 - (at + t + 1) = omega arith in
    record {
      reach = omega (arith, low.within);
      rest_small = rw left at (shorter rest t (64 - at) c.loop-rest.invariant.rest_small low.within);
      few = omega (arith, c.loop-rest.invariant.few);
      packed_small = subst (λ n. packed + n < 2 ^ (count + 1)) (sym whole) (bit_more packed count bit c.loop-rest.invariant.packed_small truth);
      walk =
          λ group short is small.
          let w = c.loop-rest.invariant.walk group short is small in
          let next = lowest rest (length group - at) (omega (arith, c.loop-rest-test.true)) w.small (omega (arith, short)) in
          subst (λ n. Walk c.args.set group (rest / 2 ^ t / 2) (place + 1) (packed + n) (count + 1)) (sym whole)
          (walk_next c.args.bits c.args.set group rest at packed count t place bit w next refl is read);
    }

pub returns-clause-kept : goal.returns-clause-kept
returns-clause-kept c = record { of = λ group short is small. walk_end c.args.set group c.loop-rest.rest c.loop-rest.at c.loop-rest.packed c.loop-rest.count c.loop-rest-test.false (c.loop-rest.invariant.walk group short is small) }
