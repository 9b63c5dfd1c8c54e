use Rattle.std.proofs.Common.{◌≡◌, take}
use Rattle.std.specs.Prelude.{flat_map}
use Rattle.vortex_table_types.specs.Answers.{stands_for}
use Rattle.vortex_judge.proofs.judge.joined.Given as goal

abbrev pub invariant-loop-batch : goal.invariant-loop-batch
invariant-loop-batch l = l.list.items ≡ flat_map (stands_for l.rows) (take l.batch-index l.batches)
