use Rattle.vortex_table_chunks.specs.ChunkOf.{content_of}
use Rattle.vortex_table_planner.proofs.Fitting.{no_mismatch}
use Rattle.vortex_table_scan.proofs.Completing.{answered, memory_alone}
use Rattle.vortex_table_scan.proofs.OnePartition.{one_described}
use Rattle.vortex_table_scan.proofs.Untouched.{invalid_cause, untouched_back, untouched_journals, untouched_sure}
use Rattle.vortex_table_scan.proofs.table_scan.scan_table.Goals as goal

-- a request that is not valid

pub returns-in-Err-clause-cause : goal.returns-in-Err-clause-cause
returns-in-Err-clause-cause g c = invalid_cause g.S.IoSource c.args.request.now c.args.steps c.args.table.now c.args.table.now c.in-Err.error (rw c.columns.ensures.value at c.in-Err.ensures.err)

pub returns-in-Err-clause-complete : goal.returns-in-Err-clause-complete
returns-in-Err-clause-complete g c = λ told valid honest none enough.
    memory_alone g.S.IoSource c.args.request.now c.args.steps told c.args.table.now c.args.table.now valid honest none enough
    (λ p split column partition content there fits differs. no_mismatch c.args.table.now.columns p partition c.args.request.now (content_of content) split column (one_described c.args.table.now.columns c.args.table.now.partitions _ p partition c.columns.ensures.described there) fits differs)
    c.in-Err.error (invalid_cause g.S.IoSource c.args.request.now c.args.steps c.args.table.now c.args.table.now c.in-Err.error (rw c.columns.ensures.value at c.in-Err.ensures.err))

pub returns-in-Err-clause-sources : goal.returns-in-Err-clause-sources
returns-in-Err-clause-sources g c = untouched_back g.S.IoSource c.args.table.now.sources c.columns.ensures.idle

pub returns-in-Err-clause-sure : goal.returns-in-Err-clause-sure
returns-in-Err-clause-sure g c = untouched_sure g.S.IoSource c.args.table.now.partitions c.args.table.now.sources

pub returns-in-Err-clause-journals : goal.returns-in-Err-clause-journals
returns-in-Err-clause-journals g c = untouched_journals g.S.IoSource c.args.request.now c.args.table.now

-- a valid one

pub returns-in-Ok-clause-complete : goal.returns-in-Ok-clause-complete
returns-in-Ok-clause-complete g c = λ told valid honest none enough.
    answered c.scan.result _ c.scan.ensures.cause
    (memory_alone g.S.IoSource c.args.request.now c.args.steps told c.args.table.now c.scan.new.self valid honest none enough
    (λ p split column partition content there fits differs. no_mismatch c.args.table.now.columns p partition c.args.request.now (content_of content) split column (one_described c.args.table.now.columns c.args.table.now.partitions _ p partition c.columns.ensures.described there) fits differs))
