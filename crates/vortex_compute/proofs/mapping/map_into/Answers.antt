use Rattle.std.proofs.Common.{arith, ◌<◌, length, rules}
use Rattle.vortex_compute.proofs.MapSteps.{map_more}
use Rattle.vortex_compute.proofs.mapping.map_into.Goals as goal

pub loop-i-preserved : goal.loop-i-preserved
loop-i-preserved g c =
    let lanes = g.S.IndexedSource.lanes c.args.values.now in
    let within : c.loop-i.i < length lanes = omega (arith, c.len-i-end.ensures) in
    let room : c.loop-i.i < length c.loop-i.out = omega (arith, c.len-i-end.ensures, c.requires.room, c.loop-i.auto.out) in
    map_more _ lanes c.loop-i.out c.loop-i.i c.get.result c.f.result within room c.get.ensures (search rules) c.loop-i.invariant
