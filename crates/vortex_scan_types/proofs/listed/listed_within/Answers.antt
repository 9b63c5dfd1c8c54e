use Rattle.vortex_scan_types.proofs.Ascending.{part_found}
use Rattle.vortex_scan_types.proofs.listed.listed_within.Goals as goal

pub returns : goal.returns
returns c =
    part_found c.args.range.now.start c.args.range.now.end c.listed_below-first.result c.listed_below-end.result c.max.result c.args.listed.now
    c.requires c.listed_below-first.ensures.place c.listed_below-end.ensures.place c.max.ensures
