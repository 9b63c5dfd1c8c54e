use Rattle.vortex_table_types.proofs.Turning.{has_answer}
use Rattle.vortex_table_types.proofs.laws.each_question_has_an_answer.Goals as goal

pub returns : goal.returns
returns c = has_answer
