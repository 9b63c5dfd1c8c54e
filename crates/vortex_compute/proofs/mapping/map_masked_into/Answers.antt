use Rattle.std.proofs.Common.{arith, ◌≡◌, ◌*◌, ◌+◌, ◌/◌, ◌%◌, take}
use Rattle.std.proofs.lemmas.List.{take_all}
use Rattle.vortex_compute.proofs.MapSteps.{valid_group_more}
use Rattle.vortex_compute.proofs.mapping.map_masked_into.Goals as goal

pub loop-k-preserved : goal.loop-k-preserved
loop-k-preserved g c =
    let lanes = g.S.IndexedSource.lanes c.args.values.now in
    valid_group_more _ g.R.LaneDefault.its_default lanes c.args.mask.now (64 * c.loop-k.k) 64 (64 * (c.loop-k.k + 1)) c.loop-k.out c.map_valid_group.new.out (omega arith) (omega (arith, c.len-len.ensures)) c.requires.masked c.loop-k.invariant c.map_valid_group.ensures

pub returns-then-rest-ne0 : goal.returns-then-rest-ne0
returns-then-rest-ne0 g c =
    let lanes = g.S.IndexedSource.lanes c.args.values.now in
    let len = c.len-len.result in
    let k : c.loop-k.k ≡ len / 64 = omega arith in
    let new = c.map_valid_group-then-rest-ne0.new.out in
    let all : take len lanes ≡ lanes = take_all len lanes (omega (arith, c.len-len.ensures)) in
    let bits : take len c.args.mask.now ≡ c.args.mask.now = take_all len c.args.mask.now (omega (arith, c.len-len.ensures, c.requires.masked)) in
    let whole : take len new ≡ new = take_all len new (omega (arith, c.len-len.ensures, c.requires.room, c.map_valid_group-then-rest-ne0.auto.out, c.loop-k.auto.out)) in
    record { written = rw (all, bits, whole) at (valid_group_more _ g.R.LaneDefault.its_default lanes c.args.mask.now (64 * (len / 64)) (len % 64) len c.loop-k.out new (omega arith) (omega (arith, c.len-len.ensures)) c.requires.masked (rw k at c.loop-k.invariant) c.map_valid_group-then-rest-ne0.ensures) }
