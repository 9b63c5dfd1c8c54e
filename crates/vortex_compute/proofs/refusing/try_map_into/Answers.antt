use Rattle.std.proofs.Common.{arith, ◌≡◌, ◌+◌, ◌*◌, ◌/◌, ◌%◌, take, refl, []}
use Rattle.std.proofs.lemmas.List.{take_all}
use Rattle.vortex_compute.proofs.Failures.{unmasked_more, unmasked_fails, all_given}
use Rattle.vortex_compute.proofs.refusing.try_map_into.Goals as goal

pub loop-k-init : goal.loop-k-init
loop-k-init g c = record { answers = []; each = tt; passes = λ i l. absurd (omega arith); written = refl }

pub returns-then-failed-ne0-clause-err : goal.returns-then-failed-ne0-clause-err
returns-then-failed-ne0-clause-err g c =
    let lanes = g.S.IndexedSource.lanes c.args.values.now in
    unmasked_fails _ g.R.LaneDefault.its_default lanes c.loop-k.out c.try_group-failed.new.out c.loop-k.k 64 c.try_group-failed.result (omega arith) (omega (arith, c.len-len.ensures)) c.loop-k.invariant c.try_group-failed.ensures c.if-failed-ne0.true

pub loop-k-preserved : goal.loop-k-preserved
loop-k-preserved g c =
    let lanes = g.S.IndexedSource.lanes c.args.values.now in
    unmasked_more _ g.R.LaneDefault.its_default lanes c.loop-k.out c.try_group-failed.new.out c.loop-k.k 64 (64 * (c.loop-k.k + 1)) c.try_group-failed.result (omega arith) (omega arith) (omega (arith, c.len-len.ensures)) c.loop-k.invariant c.try_group-failed.ensures c.if-failed-ne0.false

pub returns-then-rest-eq0-clause-ok : goal.returns-then-rest-eq0-clause-ok
returns-then-rest-eq0-clause-ok g c =
    let lanes = g.S.IndexedSource.lanes c.args.values.now in
    let len = c.len-len.result in
    let k : 64 * c.loop-k.k ≡ len = omega arith in
    let all : take len lanes ≡ lanes = take_all len lanes (omega (arith, c.len-len.ensures)) in
    let whole : take len c.loop-k.out ≡ c.loop-k.out = take_all len c.loop-k.out (omega (arith, c.len-len.ensures, c.requires.room, c.loop-k.auto.out)) in
    all_given _ g.R.LaneDefault.its_default lanes c.loop-k.out (rw (k, all, whole) at c.loop-k.invariant)

pub returns-then-failed-ne0-2-clause-err : goal.returns-then-failed-ne0-2-clause-err
returns-then-failed-ne0-2-clause-err g c =
    let lanes = g.S.IndexedSource.lanes c.args.values.now in
    let len = c.len-len.result in
    let k : c.loop-k.k ≡ len / 64 = omega arith in
    unmasked_fails _ g.R.LaneDefault.its_default lanes c.loop-k.out c.try_group-failed-2.new.out (len / 64) (len % 64) c.try_group-failed-2.result (omega arith) (omega (arith, c.len-len.ensures)) (rw k at c.loop-k.invariant) c.try_group-failed-2.ensures c.if-failed-ne0-2.true

pub returns-clause-ok : goal.returns-clause-ok
returns-clause-ok g c =
    let lanes = g.S.IndexedSource.lanes c.args.values.now in
    let len = c.len-len.result in
    let k : c.loop-k.k ≡ len / 64 = omega arith in
    let all : take len lanes ≡ lanes = take_all len lanes (omega (arith, c.len-len.ensures)) in
    let whole : take len c.try_group-failed-2.new.out ≡ c.try_group-failed-2.new.out = take_all len c.try_group-failed-2.new.out (omega (arith, c.len-len.ensures, c.requires.room, c.try_group-failed-2.auto.out, c.loop-k.auto.out)) in
    all_given _ g.R.LaneDefault.its_default lanes c.try_group-failed-2.new.out
    (rw (all, whole) at (unmasked_more _ g.R.LaneDefault.its_default lanes c.loop-k.out c.try_group-failed-2.new.out (len / 64) (len % 64) len c.try_group-failed-2.result (omega arith) (omega arith) (omega (arith, c.len-len.ensures)) (rw k at c.loop-k.invariant) c.try_group-failed-2.ensures c.if-failed-ne0-2.false))
