use Rattle.std.proofs.Common.{refl}
use Rattle.vortex_scan.proofs.Kept.{each_same}
use Rattle.vortex_scan.proofs.turn.ask_if_due.Goals as goal

pub returns-then-not-is_to_ask-clause-ok : goal.returns-then-not-is_to_ask-clause-ok
returns-then-not-is_to_ask-clause-ok g c = λ owners roots. let told = c.is_to_ask.ensures.goes_on c.if-not-is_to_ask.true in (refl, told.0, rw c.deref.ensures.value at told.1)

pub returns-then-not-is_to_ask-clause-sources : goal.returns-then-not-is_to_ask-clause-sources
returns-then-not-is_to_ask-clause-sources g c = each_same g.S.IoSource c.args.slots.now.items

pub returns-clause-ok : goal.returns-clause-ok
returns-clause-ok g c = λ owners roots. (rw c.deref.ensures.value at (c.is_to_ask.ensures.asks c.if-not-is_to_ask.false), record { asks = c.in-Ok.ensures.ok owners; now = refl })

pub returns-in-Err-clause-err : goal.returns-in-Err-clause-err
returns-in-Err-clause-err g c = λ owners roots.
    record { due = rw c.deref.ensures.value at (c.is_to_ask.ensures.asks c.if-not-is_to_ask.false); fails = c.in-Err.ensures.err owners; visits = refl; since = refl; sources = c.ask_all.ensures.sources }
