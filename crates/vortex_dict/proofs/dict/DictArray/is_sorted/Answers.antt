use Rattle.std.proofs.Common.{refl}
use Rattle.vortex_array_order.specs.InOrder.{IsSorted}
use Rattle.vortex_array.specs.ColumnOf.{column_of}
use Rattle.vortex_dict.proofs.Climbs.{sorted-decoded}
use Rattle.vortex_dict.proofs.dict.DictArray.is_sorted.Goals as goal

pub returns-then-is_sorted-2-clause-rows : goal.returns-then-is_sorted-2-clause-rows
returns-then-is_sorted-2-clause-rows c =
    let d = c.args.self.now in
    let codes : IsSorted (column_of d.codes).rows = rw c.codes.ensures.value at (c.if-is_sorted.ensures.0 refl) in
    let values : IsSorted (column_of d.values).rows = rw c.values.ensures.value at (c.if-is_sorted-2.ensures.0 refl) in
    sorted-decoded (column_of d.codes).rows (column_of d.values).rows c.codes.ensures.fits.below codes values
