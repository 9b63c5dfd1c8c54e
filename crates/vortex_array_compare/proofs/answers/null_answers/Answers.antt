use Rattle.vortex_array_compare.proofs.Equal.{null-column}
use Rattle.vortex_array_compare.proofs.answers.null_answers.Goals as goal

pub returns : goal.returns
returns c = null-column c.args.len c.in_ok-bits.bits c.new.result c.in_ok-bits.ensures c.new.ensures
