use Rattle.vortex_table_types.proofs.Joined.{answer_joined}
use Rattle.vortex_table_types.proofs.laws.answer_is_its_rows.Goals as goal

pub returns : goal.returns
returns c = answer_joined
