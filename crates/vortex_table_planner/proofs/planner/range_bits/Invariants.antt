use Rattle.std.proofs.Common.{◌≡◌, ◌-◌, ◌≤◌, map}
use Rattle.std.specs.List.{range_with_len}
use Rattle.vortex_scan_types.specs.Members.{in_some_range}
use Rattle.vortex_table_planner.proofs.planner.range_bits.Given as goal

abbrev pub invariant-loop-row : goal.invariant-loop-row
invariant-loop-row l = (l.rows.start ≤ l.row) × (l.bits ≡ map (in_some_range l.range) (range_with_len l.rows.start (l.row - l.rows.start))) × (l.row - l.rows.start ≤ l.rows.end - l.rows.start)
