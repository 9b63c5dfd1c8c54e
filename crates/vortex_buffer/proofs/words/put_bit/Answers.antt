use Rattle.vortex_buffer.proofs.Growing.{bits_put, holds_put}
use Rattle.vortex_buffer.proofs.words.put_bit.Goals as goal

pub returns-clause-put : goal.returns-clause-put
returns-clause-put c = bits_put c.args.words.now c.args.len c.args.bit c.requires.holds c.requires.unset

pub returns-clause-holds : goal.returns-clause-holds
returns-clause-holds c = holds_put c.args.words.now c.args.len c.args.bit c.requires.holds
