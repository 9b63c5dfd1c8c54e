use Rattle.std.proofs.Common.{◌≡◌, ◌+◌, ◌*◌, ◌≤◌, arith, length, subst, sym}
use Rattle.vortex_table_chunks.specs.ChunkOf.{content_of}
use Rattle.vortex_table_planner.specs.Owing.{partition_owed}
use Rattle.vortex_table_planner.specs.Planners.{PlannerState, planner_orderly, planner_owed, planner_permits, planner_work}
use Rattle.vortex_table_planner.specs.declared.errors.PlanError.TheVariants as error
use Rattle.vortex_table_planner.proofs.NewOwed.{new_owed}
use Rattle.vortex_table_planner.proofs.NewPlanner.{new_fits, new_permits, new_suits, new_work}
use Rattle.vortex_table_planner.proofs.planner.TablePlanner.try_new.Goals as goal

pub returns-clause-owed : goal.returns-clause-owed
returns-clause-owed c content fits =
    subst (λ (p : PlannerState). planner_owed p content ≡ partition_owed c.args.columns.now c.args.index c.args.partition.now c.args.request.now (content_of content)) (sym c.in_ok-planner.ensures)
    (new_owed c.args.columns.now c.args.index c.args.partition.now c.args.request.now content (c.requires.described.fits 0 c.args.partition.now (omega arith)) c.requires.valid.names fits)

pub returns-clause-orderly : goal.returns-clause-orderly
returns-clause-orderly c = subst planner_orderly (sym c.in_ok-planner.ensures) (new_fits c.args.columns.now c.args.index c.args.partition.now c.args.request.now)

pub returns-clause-work : goal.returns-clause-work
returns-clause-work c =
    subst (λ (p : PlannerState). planner_work p ≤ 6 * length c.args.partition.now.splits + 1) (sym c.in_ok-planner.ensures) (new_work c.args.columns.now c.args.index c.args.partition.now c.args.request.now)

pub returns-clause-permits : goal.returns-clause-permits
returns-clause-permits c content split column permits =
    new_permits c.args.columns.now c.args.index c.args.partition.now c.args.request.now content split column
    (subst (λ (p : PlannerState). planner_permits p content (error.ChunkMismatch split column)) c.in_ok-planner.ensures permits)

pub returns-clause-suits : goal.returns-clause-suits
returns-clause-suits c content failure fits permits =
    new_suits c.args.columns.now c.args.index c.args.partition.now c.args.request.now content failure c.requires.described fits
    (subst (λ (p : PlannerState). planner_permits p content failure) c.in_ok-planner.ensures permits)
