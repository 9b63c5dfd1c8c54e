use Rattle.std.proofs.Common.{◌∙◌, sym, inl, inr}
use Rattle.vortex_scan.proofs.Turning.{none_ready}
use Rattle.vortex_scan.proofs.turn.is_to_ask.Goals as goal

pub returns-then-is_due-clause-asks : goal.returns-then-is_due-clause-asks
returns-then-is_due-clause-asks g c = λ _. inl (sym c.is_due.ensures ∙ c.if-is_due.true)

pub returns-in-Some-clause-goes_on : goal.returns-in-Some-clause-goes_on
returns-in-Some-clause-goes_on g c = λ _. let l = c.in-Some.ensures in (sym c.is_due.ensures ∙ c.if-is_due.false, (c.in-Some.field-0, l.0, l.1))

pub returns-in-None-clause-asks : goal.returns-in-None-clause-asks
returns-in-None-clause-asks g c = λ _. inr (none_ready c.args.items.now c.in-None.ensures)
