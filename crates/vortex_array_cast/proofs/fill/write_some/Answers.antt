use Rattle.std.proofs.Common.{arith, ◌<◌, ◌≡◌, ◌/◌, ◌^◌, ◌∙◌, ap, bit_and, length, take, take_all}
use Rattle.std.specs.Int.{bit_at}
use Rattle.std.proofs.lemmas.Nat.Bits.{shr_and_one}
use Rattle.vortex_array_cast.specs.Filled.{filled_in}
use Rattle.vortex_array_cast.proofs.FilledWords.{length-filled_in, write-more}
use Rattle.vortex_array_cast.proofs.fill.write_some.Goals as goal

pub loop-i-preserved : goal.loop-i-preserved
loop-i-preserved g c =
    let word = c.args.word in
    let i = c.loop-i.i in
    let bit : bit_and (word / 2 ^ i) 1 ≡ bit_at word i = shr_and_one word i in
    let space : i < length c.loop-i.room = omega (arith, c.requires.room, c.requires.small, c.loop-i.auto.room) in
    write-more c.args.fill word c.args.group.now c.loop-i.room i (bit_and (word / 2 ^ i) 1) c.index-group-i.result c.item_or.result (omega arith) space c.index-group-i.is bit c.item_or.ensures c.loop-i.invariant

pub returns : goal.returns
returns g c =
    let all = filled_in c.args.fill c.args.word c.args.group.now in
    let end : length c.args.group.now ≡ c.loop-i.i = omega arith in
    ap (λ n. take n c.loop-i.room) end ∙ c.loop-i.invariant ∙ take_all c.loop-i.i all (omega (arith, length-filled_in c.args.fill c.args.word c.args.group.now))
