use Rattle.std.proofs.Common.{refl, [], inr}
use Rattle.vortex_scan.proofs.Kept.{each_same}
use Rattle.vortex_table_planner.specs.Morsels.{has_plain_columns}
use Rattle.vortex_table_scan.proofs.Called.{kept_leaves}
use Rattle.vortex_table_scan.proofs.Placing.{places_none}
use Rattle.vortex_table_scan.proofs.scan.run_admitted.Goals as goal

-- memory was wanting for a root
pub returns-in-Some-clause-err : goal.returns-in-Some-clause-err
returns-in-Some-clause-err g c = record {
  keeps = each_same g.S.IoSource c.args.run.now.live.slots;
  leaves = λ p. kept_leaves g.S.IoSource _ has_plain_columns [] c.args.run.now.live c.args.run.now.live (places_none g.S.IoSource _ has_plain_columns c.args.run.now.live);
  cause = inr refl;
}
