use Rattle.std.proofs.Common.{sym, ◌∙◌}
use Rattle.vortex_table.proofs.Filtered.{filter_all}
use Rattle.vortex_table.proofs.partition.copied.Goals as goal

pub returns : goal.returns
returns c = c.in_ok-all.ensures.items ∙ sym (filter_all c.args.values.now)
