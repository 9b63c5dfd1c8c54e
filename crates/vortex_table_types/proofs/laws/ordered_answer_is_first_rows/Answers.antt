use Rattle.vortex_table_types.proofs.Joined.{ordered_joined}
use Rattle.vortex_table_types.proofs.laws.ordered_answer_is_first_rows.Goals as goal

pub returns : goal.returns
returns c = ordered_joined
