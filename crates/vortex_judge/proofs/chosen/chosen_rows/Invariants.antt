use Rattle.std.proofs.Common.{◌≡◌, ◌++◌, drop, map, filter}
use Rattle.std.specs.Prelude.{flat_map}
use Rattle.std.specs.List.{enumerate_from}
use Rattle.vortex_table_types.specs.Chosen.{chosen, placed_rows, is_chosen, projected}
use Rattle.vortex_judge.proofs.chosen.chosen_rows.Given as goal

abbrev pub invariant-loop-partition : goal.invariant-loop-partition
invariant-loop-partition l =
    l.list.items ++ map (projected l.columns l.request.projection) (filter (is_chosen l.request l.columns) (flat_map (λ x. placed_rows x.0 x.1) (enumerate_from l.partition (drop l.partition l.partitions))))
    ≡ chosen l.request l.table
