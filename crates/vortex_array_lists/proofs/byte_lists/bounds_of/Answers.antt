use Rattle.vortex_array_lists.proofs.Pieces.{chain_bounds}
use Rattle.vortex_array_lists.proofs.byte_lists.bounds_of.Goals as goal

pub returns-clause-order : goal.returns-clause-order
returns-clause-order c = rw c.start_of.ensures (chain_bounds 0 c.args.ends.now c.args.len c.args.i c.requires.inside c.requires.chain).0

pub returns-clause-within : goal.returns-clause-within
returns-clause-within c = (chain_bounds 0 c.args.ends.now c.args.len c.args.i c.requires.inside c.requires.chain).1
