use Rattle.vortex_wire.proofs.Leading.{leads_into_run, leads_number, refused_eight, refused_four, refused_run}
use Rattle.vortex_wire.proofs.reading.told_by.Goals as goal

pub returns-in-Varint : goal.returns-in-Varint
returns-in-Varint c =
    let found = c.requires.found in
    leads_number c.args.runs c.args.bytes.now c.args.place c.args.field c.in-Varint.told c.requires.order found.0 found.1 found.2 c.in-Varint.is

pub returns-else-not-runs : goal.returns-else-not-runs
returns-else-not-runs c =
    let found = c.requires.found in
    leads_into_run c.args.runs c.args.bytes.now c.args.place c.args.field c.in-Run.start c.in-Run.end c.if-not-runs.false c.requires.order found.1 found.2 found.3 c.in-Run.is

pub returns-then-not-runs : goal.returns-then-not-runs
returns-then-not-runs c =
    let found = c.requires.found in
    refused_run c.args.runs c.args.bytes.now c.args.place c.args.field c.in-Run.start c.in-Run.end c.if-not-runs.true c.requires.order found.0 found.2 c.in-Run.is

pub returns-in-Eight : goal.returns-in-Eight
returns-in-Eight c =
    let found = c.requires.found in
    refused_eight c.args.runs c.args.bytes.now c.args.place c.args.field c.requires.order found.0 found.2 c.in-Eight.is

pub returns-in-Four : goal.returns-in-Four
returns-in-Four c =
    let found = c.requires.found in
    refused_four c.args.runs c.args.bytes.now c.args.place c.args.field c.requires.order found.0 found.2 c.in-Four.is
