use Rattle.vortex_table_types.specs.Table.{row_at}
use Rattle.vortex_judge.proofs.Parts.{split_more}
use Rattle.vortex_judge.proofs.asking.push_split.Goals as goal

pub loop-row-preserved : goal.loop-row-preserved
loop-row-preserved c = split_more (row_at c.args.columns.now) c.loop-row.list.items _ _ c.loop-row.row c.args.split.now.rows _ c.loop-row-test.true c.in_ok-row_at.ensures c.in_ok-push.ensures.items c.loop-row.invariant
