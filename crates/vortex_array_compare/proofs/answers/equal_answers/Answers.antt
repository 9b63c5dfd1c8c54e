use Rattle.vortex_array_compare.proofs.Equal.{equal-column}
use Rattle.vortex_array_compare.proofs.answers.equal_answers.Goals as goal

pub new-requires : goal.new-requires
new-requires c = c.of_values.ensures.long _

pub returns : goal.returns
returns c = equal-column c.args.len c.args.answer c.args.nullability c.in_ok-bits.bits c.of_values.result c.new.result c.in_ok-bits.ensures (record { kind = c.of_values.ensures.kind; present = c.of_values.ensures.present; long = c.of_values.ensures.long }) c.new.ensures
