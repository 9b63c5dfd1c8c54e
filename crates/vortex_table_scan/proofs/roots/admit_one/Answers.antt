use Rattle.std.proofs.Common.{◌∙◌, ap}
use Rattle.vortex_scan.specs.Steps.{admitted}
use Rattle.vortex_scan.specs.declared.worker.Work.TheVariants as work
use Rattle.vortex_table_scan.proofs.AdmitsMore.{admitted_one}
use Rattle.vortex_table_scan.proofs.roots.admit_one.Goals as goal

pub returns-in-Ok-admit-clause-ok : goal.returns-in-Ok-admit-clause-ok
returns-in-Ok-admit-clause-ok g c =
    admitted_one c.args.columns.now c.args.partitions.now c.args.request.now c.args.partition c.in-Ok.planner c.args.source c.args.run.now c.admit.new.self c.in-Ok.ensures
    (c.in-Ok-admit.ensures.ok.1 ∙ ap (λ scope. admitted c.args.run.now (work.Planner c.in-Ok.planner) scope c.args.source) c.root_scope.ensures)
