use Rattle.std.proofs.Common.{inl, inr}
use Rattle.vortex_scan.specs.Going.{state_with}
use Rattle.vortex_scan.proofs.Kept.{each_on}
use Rattle.vortex_scan.proofs.Outcomes.{if_err, if_ok}
use Rattle.vortex_scan.proofs.Turning.{asks_due_fits, must_ask, none_ready, rests, turns_came}
use Rattle.vortex_scan.proofs.turn.turn.Goals as goal

pub returns-in_default-clause-ok : goal.returns-in_default-clause-ok
returns-in_default-clause-ok g c = λ roots.
    let none = rw c.deref.ensures.value at c.in_default.ensures in
    rests g.W.Worker g.S.IoSource g.W.Payload.Payload (state_with c.args.items.now.items c.args.slots.now.items c.args.next_owner.now c.args.counts.now roots)
    (state_with c.ask_if_due.new.items.items c.ask_if_due.new.slots.items c.args.next_owner.now c.ask_if_due.new.counts roots) c.rest.result
    (must_ask g.W.Worker g.S.IoSource g.W.Payload.Payload c.in-Ok.asked (state_with c.args.items.now.items c.args.slots.now.items c.args.next_owner.now c.args.counts.now roots)
    (state_with c.ask_if_due.new.items.items c.ask_if_due.new.slots.items c.args.next_owner.now c.ask_if_due.new.counts roots) (c.in-Ok.ensures.ok c.args.next_owner.now roots) none)
    (none_ready c.ask_if_due.new.items.items none) (rw c.deref-in_default.ensures.value at c.rest.ensures.waiting) (rw c.deref-in_default.ensures.value at c.rest.ensures.idle)

pub returns-in-Err-clause-err : goal.returns-in-Err-clause-err
returns-in-Err-clause-err g c = λ roots. inl (c.in-Err.ensures.err c.args.next_owner.now roots)

pub visit_and_answer-requires-clause-least : goal.visit_and_answer-requires-clause-least
visit_and_answer-requires-clause-least g c = rw c.deref.ensures.value at c.in-Some.ensures

pub visit_and_answer-requires-clause-fits : goal.visit_and_answer-requires-clause-fits
visit_and_answer-requires-clause-fits g c =
    asks_due_fits g.W.Worker g.S.IoSource g.W.Payload.Payload c.in-Ok.asked (state_with c.args.items.now.items c.args.slots.now.items c.args.next_owner.now c.args.counts.now 0)
    (state_with c.ask_if_due.new.items.items c.ask_if_due.new.slots.items c.args.next_owner.now c.ask_if_due.new.counts 0) c.requires.fits (c.in-Ok.ensures.ok c.args.next_owner.now 0)

pub returns-clause-ok : goal.returns-clause-ok
returns-clause-ok g c =
    if_ok _ _ c.visit_and_answer.result (λ answer visited. λ roots.
    rw visited.1 (turns_came g.W.Worker g.S.IoSource g.W.Payload.Payload (state_with c.args.items.now.items c.args.slots.now.items c.args.next_owner.now c.args.counts.now roots)
    (state_with c.visit_and_answer.new.items.items c.visit_and_answer.new.slots.items c.visit_and_answer.new.next_owner c.visit_and_answer.new.counts roots) visited.0
    (record {
      asked = c.in-Ok.asked;
      between = state_with c.ask_if_due.new.items.items c.ask_if_due.new.slots.items c.args.next_owner.now c.ask_if_due.new.counts roots;
      asks = c.in-Ok.ensures.ok c.args.next_owner.now roots;
      visits = visited.2 roots;
    }))) c.visit_and_answer.ensures.ok

pub returns-clause-err : goal.returns-clause-err
returns-clause-err g c =
    if_err _ _ c.visit_and_answer.result (λ why fails. λ roots.
    inr (record {
      asked = c.in-Ok.asked;
      between = state_with c.ask_if_due.new.items.items c.ask_if_due.new.slots.items c.args.next_owner.now c.ask_if_due.new.counts roots;
      asks = c.in-Ok.ensures.ok c.args.next_owner.now roots;
      fails = fails roots;
    })) c.visit_and_answer.ensures.err

pub returns-clause-sources : goal.returns-clause-sources
returns-clause-sources g c = each_on g.S.IoSource c.args.slots.now.items c.ask_if_due.new.slots.items c.visit_and_answer.new.slots.items c.ask_if_due.ensures.sources c.visit_and_answer.ensures.sources
