use Rattle.vortex_table_types.proofs.Exactly.{exactly}
use Rattle.vortex_table_types.proofs.laws.chosen_exactly.Goals as goal

pub returns : goal.returns
returns c = exactly
