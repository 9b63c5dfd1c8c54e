use Rattle.vortex_wire.proofs.Canonical.{dict_spells, v1_spells, v2_spells}
use Rattle.vortex_wire.proofs.laws.canonical_spells.Goals as goal

pub returns-clause-dict : goal.returns-clause-dict
returns-clause-dict c = dict_spells

pub returns-clause-v1 : goal.returns-clause-v1
returns-clause-v1 c = v1_spells

pub returns-clause-v2 : goal.returns-clause-v2
returns-clause-v2 c = v2_spells
