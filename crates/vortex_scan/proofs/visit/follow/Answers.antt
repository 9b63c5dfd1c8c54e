use Rattle.std.proofs.Common.{◌∙◌, ◌+◌, ◌++◌, ◌∷◌, [], ap, refl}
use Rattle.std.proofs.Math.ListN.{set}
use Rattle.vortex_scan.specs.RunState.{live_with}
use Rattle.vortex_scan.specs.Steps.{child_of}
use Rattle.vortex_scan.proofs.Kept.{each_same}
use Rattle.vortex_scan.proofs.Outcomes.{if_err, if_ok, if_ok_both}
use Rattle.vortex_scan.proofs.visit.follow.Goals as goal

pub returns-in-Done-clause-sources : goal.returns-in-Done-clause-sources
returns-in-Done-clause-sources g c = c.retire.ensures.sources

pub returns-in-Continue-clause-sources : goal.returns-in-Continue-clause-sources
returns-in-Continue-clause-sources g c = each_same g.S.IoSource c.args.slots.now.items

pub returns-in-Child-clause-sources : goal.returns-in-Child-clause-sources
returns-in-Child-clause-sources g c = each_same g.S.IoSource c.args.slots.now.items

pub returns-in-Batch-clause-sources : goal.returns-in-Batch-clause-sources
returns-in-Batch-clause-sources g c = each_same g.S.IoSource c.args.slots.now.items

pub returns-in-NeedsIO-clause-ok : goal.returns-in-NeedsIO-clause-ok
returns-in-NeedsIO-clause-ok g c =
    rw c.in-NeedsIO.is (if_ok _ _ c.ask_for.result (λ answer follows. λ item at. follows item c.args.next_owner.now at) c.ask_for.ensures.ok)

pub returns-in-NeedsIO-clause-err : goal.returns-in-NeedsIO-clause-err
returns-in-NeedsIO-clause-err g c =
    rw c.in-NeedsIO.is (if_err _ _ c.ask_for.result (λ why fails. λ item at. fails item c.args.next_owner.now at) c.ask_for.ensures.err)

pub returns-in-Child-clause-ok : goal.returns-in-Child-clause-ok
returns-in-Child-clause-ok g c =
    rw c.in-Child.is (if_ok_both _ _ _ c.emit.result (λ answer went joined. λ item at.
    (record { room = went.1; now = ap (λ items. live_with items c.args.slots.now.items c.emit.new.next_owner) (joined item at) ∙ ap (λ owners. live_with (set c.args.items.now.items c.args.at (record item { next = item.next + 1 }) ++ child_of item c.args.next_owner.now c.in-Child.scope c.in-Child.work ∷ []) c.args.slots.now.items owners) went.2 }, went.0))
    c.emit.ensures.went c.emit.ensures.items)

pub returns-in-Child-clause-err : goal.returns-in-Child-clause-err
returns-in-Child-clause-err g c =
    rw c.in-Child.is (if_err _ _ c.emit.result (λ why fails. λ item at. fails) c.emit.ensures.err)

pub returns-in-Batch-clause-ok : goal.returns-in-Batch-clause-ok
returns-in-Batch-clause-ok g c =
    rw c.in-Batch.is (if_ok_both _ _ _ c.give.result (λ answer some gives. λ item at. (some, refl, (rw c.deref.ensures.value at gives) item at)) c.give.ensures.rows c.give.ensures.answer)

pub returns-in-Batch-clause-err : goal.returns-in-Batch-clause-err
returns-in-Batch-clause-err g c =
    rw c.in-Batch.is (if_err _ _ c.give.result (λ why fails. λ item at. fails) c.give.ensures.err)

pub returns-in-NeedsIO-clause-given : goal.returns-in-NeedsIO-clause-given
returns-in-NeedsIO-clause-given g c =
    rw c.in-NeedsIO.is (if_err _ _ c.ask_for.result (λ why given. λ item at. given item at) c.ask_for.ensures.given)

pub returns-in-Child-clause-given : goal.returns-in-Child-clause-given
returns-in-Child-clause-given g c =
    rw c.in-Child.is (if_err _ _ c.emit.result (λ why fails. λ item at. refl) c.emit.ensures.err)

pub returns-in-Batch-clause-given : goal.returns-in-Batch-clause-given
returns-in-Batch-clause-given g c =
    rw c.in-Batch.is (if_err _ _ c.give.result (λ why fails. λ item at. refl) c.give.ensures.err)
