use Rattle.std.proofs.Common.{ap, sym, length, ◌∙◌}
use Rattle.vortex_scan_types.proofs.Counted.{count_in_part}
use Rattle.vortex_scan_types.proofs.listed.listed_count.Goals as goal

pub returns : goal.returns
returns c = ap length c.listed_within.ensures ∙ sym (count_in_part c.args.range.now.start c.args.range.now.end c.args.listed.now c.requires)
