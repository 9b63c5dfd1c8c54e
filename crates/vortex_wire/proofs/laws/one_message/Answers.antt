use Rattle.vortex_wire.proofs.Unique as unique
use Rattle.vortex_wire.proofs.laws.one_message.Goals as goal

pub returns : goal.returns
returns c = unique.one_message
