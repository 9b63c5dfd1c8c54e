use Rattle.vortex_table_types.proofs.Joined.{chosen_full}
use Rattle.vortex_table_types.proofs.laws.chosen_rows_are_full.Goals as goal

pub returns : goal.returns
returns c = chosen_full
