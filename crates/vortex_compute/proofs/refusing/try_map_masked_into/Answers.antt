use Rattle.std.proofs.Common.{arith, ◌≡◌, ◌+◌, ◌*◌, ◌/◌, ◌%◌, take, refl, ap, sym, ◌∙◌, []}
use Rattle.std.specs.Int.Bits.{bit_and}
use Rattle.std.proofs.lemmas.List.{take_all}
use Rattle.vortex_compute.proofs.Failures.{masked_more, masked_fails}
use Rattle.vortex_compute.proofs.refusing.try_map_masked_into.Goals as goal

pub loop-k-init : goal.loop-k-init
loop-k-init g c = record { answers = []; each = tt; passes = λ i l. absurd (omega arith); written = refl }

pub returns-then-failed-ne0-clause-err : goal.returns-then-failed-ne0-clause-err
returns-then-failed-ne0-clause-err g c =
    let lanes = g.S.IndexedSource.lanes c.args.values.now in
    rw (c.failed_lane.ensures, c.word.ensures) (masked_fails _ g.R.LaneDefault.its_default lanes c.args.mask.now c.loop-k.out c.try_group.new.out c.loop-k.k 64 c.try_group.result (omega (arith, c.len-len.ensures)) c.loop-k.invariant c.try_group.ensures (λ e. c.if-failed-ne0.true (ap (bit_and c.try_group.result) c.word.ensures ∙ e)))

pub loop-k-preserved : goal.loop-k-preserved
loop-k-preserved g c =
    let lanes = g.S.IndexedSource.lanes c.args.values.now in
    masked_more _ g.R.LaneDefault.its_default lanes c.args.mask.now c.loop-k.out c.try_group.new.out c.loop-k.k 64 (64 * (c.loop-k.k + 1)) c.try_group.result (omega arith) (omega arith) (omega (arith, c.len-len.ensures)) c.loop-k.invariant c.try_group.ensures (ap (bit_and c.try_group.result) (sym c.word.ensures) ∙ c.if-failed-ne0.false)

pub returns-then-failed-ne0-2-clause-err : goal.returns-then-failed-ne0-2-clause-err
returns-then-failed-ne0-2-clause-err g c =
    let lanes = g.S.IndexedSource.lanes c.args.values.now in
    let len = c.len-len.result in
    let k : c.loop-k.k ≡ len / 64 = omega arith in
    let so_far = rw k at c.loop-k.invariant in
    rw (c.failed_lane-then-failed-ne0-2.ensures, c.word-2.ensures) (masked_fails _ g.R.LaneDefault.its_default lanes c.args.mask.now c.loop-k.out c.try_group-2.new.out (len / 64) (len % 64) c.try_group-2.result (omega (arith, c.len-len.ensures)) so_far c.try_group-2.ensures (λ e. c.if-failed-ne0-2.true (ap (bit_and c.try_group-2.result) c.word-2.ensures ∙ e)))

pub returns-clause-ok : goal.returns-clause-ok
returns-clause-ok g c =
    let lanes = g.S.IndexedSource.lanes c.args.values.now in
    let len = c.len-len.result in
    let k : c.loop-k.k ≡ len / 64 = omega arith in
    let so_far = rw k at c.loop-k.invariant in
    let all : take len lanes ≡ lanes = take_all len lanes (omega (arith, c.len-len.ensures)) in
    let whole : take len c.try_group-2.new.out ≡ c.try_group-2.new.out = take_all len c.try_group-2.new.out (omega (arith, c.len-len.ensures, c.requires.room, c.try_group-2.auto.out, c.loop-k.auto.out)) in
    rw (all, whole) at (masked_more _ g.R.LaneDefault.its_default lanes c.args.mask.now c.loop-k.out c.try_group-2.new.out (len / 64) (len % 64) len c.try_group-2.result (omega arith) (omega arith) (omega (arith, c.len-len.ensures)) so_far c.try_group-2.ensures (ap (bit_and c.try_group-2.result) (sym c.word-2.ensures) ∙ c.if-failed-ne0-2.false))
