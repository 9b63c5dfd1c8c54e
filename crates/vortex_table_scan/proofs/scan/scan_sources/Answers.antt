use Rattle.vortex_table_scan.proofs.Scanned.{scanned_back, scanned_cause, scanned_journals, scanned_plain, scanned_roots, scanned_rows, scanned_sure}
use Rattle.vortex_table_scan.proofs.Untouched.{untouched_back, untouched_journals, untouched_sure}
use Rattle.vortex_table_scan.proofs.scan.scan_sources.Goals as goal

pub returns-in-Ok-clause-rows : goal.returns-in-Ok-clause-rows
returns-in-Ok-clause-rows g c =
    let w = c.scan_within.ensures in
    scanned_rows g.S.IoSource c.args.columns.now c.args.partitions.now c.args.request.now c.args.steps c.args.sources.items c.scan_within.result.sources.items (λ v. v.items) c.scan_within.result.answer w.0 w.1 w.2 w.3 c.requires.table c.requires.valid w.4 w.5

pub returns-in-Ok-clause-roots : goal.returns-in-Ok-clause-roots
returns-in-Ok-clause-roots g c =
    let w = c.scan_within.ensures in
    scanned_roots g.S.IoSource c.args.columns.now c.args.partitions.now c.args.request.now c.args.steps c.args.sources.items c.scan_within.result.sources.items (λ v. v.items) c.scan_within.result.answer w.0 w.1 w.2 w.3 c.requires.table c.requires.valid w.4 w.5

pub returns-in-Ok-clause-plain : goal.returns-in-Ok-clause-plain
returns-in-Ok-clause-plain g c =
    let w = c.scan_within.ensures in
    scanned_plain g.S.IoSource c.args.columns.now c.args.partitions.now c.args.request.now c.args.steps c.args.sources.items c.scan_within.result.sources.items (λ v. v.items) c.scan_within.result.answer w.0 w.1 w.2 w.3 c.requires.table c.requires.valid w.4 w.5

pub returns-in-Ok-clause-cause : goal.returns-in-Ok-clause-cause
returns-in-Ok-clause-cause g c =
    let w = c.scan_within.ensures in
    scanned_cause g.S.IoSource c.args.columns.now c.args.partitions.now c.args.request.now c.args.steps c.args.sources.items c.scan_within.result.sources.items (λ v. v.items) c.scan_within.result.answer w.0 w.1 w.2 w.3 c.requires.table c.requires.valid w.4 w.5

pub returns-in-Ok-clause-sources : goal.returns-in-Ok-clause-sources
returns-in-Ok-clause-sources g c =
    let w = c.scan_within.ensures in
    scanned_back g.S.IoSource c.args.columns.now c.args.partitions.now c.args.request.now c.args.steps c.args.sources.items c.scan_within.result.sources.items (λ v. v.items) c.scan_within.result.answer w.0 w.1 w.2 w.3 c.requires.table c.requires.valid w.4 w.5

pub returns-in-Ok-clause-sure : goal.returns-in-Ok-clause-sure
returns-in-Ok-clause-sure g c =
    let w = c.scan_within.ensures in
    scanned_sure g.S.IoSource c.args.columns.now c.args.partitions.now c.args.request.now c.args.steps c.args.sources.items c.scan_within.result.sources.items (λ v. v.items) c.scan_within.result.answer w.0 w.1 w.2 w.3 c.requires.table c.requires.valid w.4 w.5

pub returns-in-Ok-clause-journals : goal.returns-in-Ok-clause-journals
returns-in-Ok-clause-journals g c =
    let w = c.scan_within.ensures in
    scanned_journals g.S.IoSource c.args.columns.now c.args.partitions.now c.args.request.now c.args.steps c.args.sources.items c.scan_within.result.sources.items (λ v. v.items) c.scan_within.result.answer w.0 w.1 w.2 w.3 c.requires.table c.requires.valid w.4 w.5

-- where there is no room

pub returns-in-Err-clause-sources : goal.returns-in-Err-clause-sources
returns-in-Err-clause-sources g c = untouched_back g.S.IoSource c.args.sources.items c.requires.table.idle

pub returns-in-Err-clause-sure : goal.returns-in-Err-clause-sure
returns-in-Err-clause-sure g c = untouched_sure g.S.IoSource c.args.partitions.now c.args.sources.items

pub returns-in-Err-clause-journals : goal.returns-in-Err-clause-journals
returns-in-Err-clause-journals g c = untouched_journals g.S.IoSource c.args.request.now (record { columns = c.args.columns.now; partitions = c.args.partitions.now; sources = c.args.sources.items })
