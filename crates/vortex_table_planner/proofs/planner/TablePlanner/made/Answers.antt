use Rattle.std.proofs.Common.{arith, subst, sym}
use Rattle.vortex_table_planner.specs.Morsels.{IsWanted}
use Rattle.vortex_table_planner.proofs.Valid.{new_wanted}
use Rattle.vortex_table_planner.proofs.planner.TablePlanner.made.Goals as goal

pub invariant_of-result : goal.invariant_of-result
invariant_of-result c = (
  subst IsWanted (sym c.in_ok-wanted.ensures) (new_wanted c.args.columns.now c.args.index c.args.partition.now c.args.request.now c.requires.described.names c.requires.valid),
  omega arith,
)
