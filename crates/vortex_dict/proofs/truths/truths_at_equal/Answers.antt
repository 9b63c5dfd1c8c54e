use Rattle.vortex_array_types.specs.Row.{is_nullable}
use Rattle.vortex_array_kinds.specs.Validities.{nullability_of}
use Rattle.vortex_array.specs.ColumnOf.{column_of}
use Rattle.vortex_dict.proofs.Gathered.{bools-taken}
use Rattle.vortex_dict.proofs.truths.truths_at_equal.Goals as goal

pub truths_of-requires-clause-kind : goal.truths_of-requires-clause-kind
truths_of-requires-clause-kind c =
    rw c.in_ok-answers.ensures.column (bools-taken (is_nullable (column_of c.args.codes.now).dtype) (nullability_of c.args.truths.validity))
