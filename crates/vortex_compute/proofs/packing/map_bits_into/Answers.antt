use Rattle.std.proofs.Common.{arith, rules, ◌≡◌, ◌+◌, ◌*◌, ◌/◌, ◌%◌, take}
use Rattle.std.proofs.lemmas.List.{take_all}
use Rattle.vortex_compute.proofs.WordSteps.{group_more, none_packed}
use Rattle.vortex_compute.proofs.packing.map_bits_into.Goals as goal

pub loop-k-init : goal.loop-k-init
loop-k-init g c = none_packed _ (g.S.IndexedSource.lanes c.args.values.now) c.args.words.now

pub loop-k-preserved : goal.loop-k-preserved
loop-k-preserved g c =
    let lanes = g.S.IndexedSource.lanes c.args.values.now in
    group_more _ lanes c.args.words.now c.loop-k.words c.loop-k.k 64 (64 * (c.loop-k.k + 1)) c.pack_group.result (omega arith) (omega arith) (omega arith) (omega (arith, c.len-len.ensures)) (search rules) c.loop-k.invariant c.pack_group.ensures

pub returns-then-rest-ne0 : goal.returns-then-rest-ne0
returns-then-rest-ne0 g c =
    let lanes = g.S.IndexedSource.lanes c.args.values.now in
    let len = c.len-len.result in
    let all : take len lanes ≡ lanes = take_all len lanes (omega (arith, c.len-len.ensures)) in
    let k : c.loop-k.k ≡ len / 64 = omega arith in
    record { written = rw all at (group_more _ lanes c.args.words.now c.loop-k.words (len / 64) (len % 64) len c.pack_group-then-rest-ne0.result (omega arith) (omega arith) (omega arith) (omega (arith, c.len-len.ensures)) (search rules) (rw k at c.loop-k.invariant) c.pack_group-then-rest-ne0.ensures) }
