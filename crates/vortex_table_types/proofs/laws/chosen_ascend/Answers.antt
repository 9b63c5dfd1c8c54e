use Rattle.vortex_table_types.proofs.Ascend.{ascend}
use Rattle.vortex_table_types.proofs.laws.chosen_ascend.Goals as goal

pub returns : goal.returns
returns c = ascend
