use Rattle.std.proofs.Common.{◌≡◌, take}
use Rattle.std.specs.Prelude.{filter, sum_by}
use Rattle.vortex_table_types.specs.Table.{split_scopes}
use Rattle.vortex_table_planner.specs.Live.{is_live, numbered}
use Rattle.vortex_table_planner.specs.declared.live.LiveSplit.{LiveSplit}
use Rattle.vortex_table_planner.proofs.live.live_splits.Given as goal

abbrev pub invariant-loop-split : goal.invariant-loop-split
invariant-loop-split l = (l.live.items ≡ filter (λ (live : LiveSplit). is_live l.request live.scope) (numbered 0 (split_scopes l.index 0 (take l.split l.splits))))
    × (l.start ≡ sum_by (λ split. split.rows) (take l.split l.splits))
