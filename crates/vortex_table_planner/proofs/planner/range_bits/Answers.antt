use Rattle.std.proofs.Common.{◌∙◌, ◌≡◌, ◌-◌, ap, arith, ℕ, map}
use Rattle.std.specs.List.{range_with_len}
use Rattle.vortex_scan_types.specs.Members.{in_some_range}
use Rattle.vortex_table_planner.proofs.planner.range_bits.Goals as goal

pub returns : goal.returns
returns c =
    let long : c.loop-row.row - c.args.rows.now.start ≡ c.args.rows.now.end - c.args.rows.now.start = omega (arith, c.loop-row.invariant.0, c.loop-row.invariant.2, c.loop-row-test.false) in
    c.loop-row.invariant.1 ∙ ap (λ (n : ℕ). map (in_some_range c.args.range.now) (range_with_len c.args.rows.now.start n)) long
