use Rattle.vortex_table_types.proofs.Whole.{found}
use Rattle.vortex_table_types.proofs.laws.no_row_missing.Goals as goal

pub returns : goal.returns
returns c = found
