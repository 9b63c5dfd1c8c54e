use Rattle.std.proofs.Common.{◌∙◌, ap, arith, map}
use Rattle.vortex_array.specs.ColumnOf.{column_of}
use Rattle.vortex_table.specs.Scanning.{u64_row}
use Rattle.vortex_table.proofs.ReadBack.{numbers_all, numbers_more}
use Rattle.vortex_table.proofs.numbers.read_numbers.Goals as goal

pub loop-i-preserved : goal.loop-i-preserved
loop-i-preserved c =
    ap (map u64_row) c.in_ok-push.ensures.items
    ∙ numbers_more (column_of c.args.array.now).rows c.loop-i.numbers.items c.loop-i.i c.number_at.result (omega arith) c.loop-i.invariant c.number_at.ensures

pub returns : goal.returns
returns c = numbers_all (column_of c.args.array.now) c.loop-i.numbers.items c.loop-i.i (omega arith) c.requires c.loop-i.invariant
