use Rattle.std.proofs.Common.{arith, ◌<◌, length, rules, refl, []}
use Rattle.vortex_compute.proofs.MapSteps.{checked_more}
use Rattle.vortex_compute.proofs.mapping.map_checked_into.Goals as goal

pub loop-i-init : goal.loop-i-init
loop-i-init g c = record { answers = []; each = tt; written = refl; failures = c.none-failures.ensures }

pub loop-i-preserved : goal.loop-i-preserved
loop-i-preserved g c =
    let lanes = g.S.IndexedSource.lanes c.args.values.now in
    let within : c.loop-i.i < length lanes = omega (arith, c.len-i-end.ensures) in
    let room : c.loop-i.i < length c.loop-i.out = omega (arith, c.len-i-end.ensures, c.requires.room, c.loop-i.auto.out) in
    rw c.or-failures.ensures (checked_more _ g.W.FailWord.no_failure g.W.FailWord.either lanes c.loop-i.out c.loop-i.failures c.loop-i.i c.get.result c.apply-value.result within room c.get.ensures (search rules) c.loop-i.invariant)
