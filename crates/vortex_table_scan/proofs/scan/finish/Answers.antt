use Rattle.vortex_table_scan.proofs.Cancelled.{cancels_none}
use Rattle.vortex_table_scan.proofs.Within.{each_ok}
use Rattle.vortex_table_scan.proofs.scan.finish.Goals as goal

-- an ordered scan cancels nothing
pub returns-then-request-clause-cancels : goal.returns-then-request-clause-cancels
returns-then-request-clause-cancels g c = each_ok c.in_order.result _ (λ kept. cancels_none g.S.IoSource c.args.run.now.live.slots)
