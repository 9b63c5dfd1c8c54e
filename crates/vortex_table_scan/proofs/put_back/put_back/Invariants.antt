use Rattle.std.proofs.Common.{◌≡◌, ◌++◌, length, vec_capacity}
use Rattle.vortex_table_scan.specs.Parted.{is_admitted, is_left, picked}
use Rattle.vortex_table_scan.proofs.put_back.put_back.Given as goal

-- what stands in its place, and what is left, are together what was handed in
abbrev pub invariant-partitions : goal.invariant-partitions
invariant-partitions g l = record {
  long : length l.home.items ≡ l.partition;
  room : vec_capacity l.home ≡ vec_capacity l.fn.home;
  admitted : picked (is_admitted l.fn.request l.fn.stopped) 0 l.home.items ++ l.admitted.rest.items ≡ l.fn.admitted.items;
  others : picked (is_left l.fn.request l.fn.stopped) 0 l.home.items ++ l.others.rest.items ≡ l.fn.others.items;
}
