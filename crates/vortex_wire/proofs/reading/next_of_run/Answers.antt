use Rattle.vortex_wire.proofs.Leading.{leads_run_number, no_number_in_run}
use Rattle.vortex_wire.proofs.reading.next_of_run.Goals as goal

pub returns-in_default : goal.returns-in_default
returns-in_default c =
    no_number_in_run c.args.runs c.args.number c.args.bytes.now c.args.place c.requires.order c.requires.inside c.in_default.ensures.bad

pub returns : goal.returns
returns c =
    let found = c.in-Ok.ensures.found in
    leads_run_number c.args.runs c.args.number c.args.bytes.now c.args.place c.in-Ok.at c.in-Ok.told found.0 found.1 c.requires.inside found.2
