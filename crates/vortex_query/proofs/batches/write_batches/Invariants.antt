use Rattle.std.proofs.Common.{Some, take}
use Rattle.vortex_query.specs.Shown.{Holds, rows_of}
use Rattle.vortex_query.specs.Text.{text}
use Rattle.vortex_scan_types.specs.declared.request.Projection.TheVariants as projections
use Rattle.vortex_query.proofs.batches.write_batches.Given as goal

abbrev pub invariant-loop-batch : goal.invariant-loop-batch
invariant-loop-batch l = Holds (λ v. Some v.items) l.writer (text l.columns projections.All (rows_of (take l.batch-index l.batches)))
