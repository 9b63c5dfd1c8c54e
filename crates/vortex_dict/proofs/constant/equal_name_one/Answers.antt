use Rattle.vortex_array.specs.ColumnOf.{column_of}
use Rattle.vortex_dict.proofs.Marks.{equal-constant}
use Rattle.vortex_dict.proofs.constant.equal_name_one.Goals as goal

pub returns : goal.returns
returns c = rw c.len.ensures.count (equal-constant c.args.code.now (column_of c.args.values.now).rows)
