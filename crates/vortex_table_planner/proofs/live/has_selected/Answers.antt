use Rattle.std.proofs.Common.{◌∙◌, ap, nat_lt}
use Rattle.vortex_scan_types.specs.Members.{count_in_range}
use Rattle.vortex_table_planner.proofs.Ranges.{some_selected}
use Rattle.vortex_table_planner.proofs.live.has_selected.Goals as goal

pub returns : goal.returns
returns c =
    ap (nat_lt 0) (c.row_count_in_range.ensures ∙ ap (count_in_range c.args.selection.now) c.clip.ensures) ∙ some_selected c.args.range.now c.args.selection.now c.args.rows.now
