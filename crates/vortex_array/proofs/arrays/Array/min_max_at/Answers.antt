use Rattle.vortex_array.specs.ColumnOf.{column_of}
use Rattle.vortex_array_order.proofs.ExtremeValues.{are-extremes}
use Rattle.vortex_array.proofs.arrays.Array.min_max_at.Goals as goal

pub returns : goal.returns
returns c = are-extremes (column_of c.args.self.now) c.in_ok-min.min c.in_ok-max.max c.args.least c.args.greatest c.requires.least c.requires.greatest c.in_ok-min.ensures c.in_ok-max.ensures
