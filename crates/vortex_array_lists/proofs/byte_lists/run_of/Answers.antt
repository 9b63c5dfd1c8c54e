use Rattle.vortex_array_lists.proofs.Pieces.{starts_rise, start_within}
use Rattle.vortex_array_lists.proofs.byte_lists.run_of.Goals as goal

pub returns-clause-order : goal.returns-clause-order
returns-clause-order c = rw (c.start_of.ensures, c.start_of-2.ensures) (starts_rise 0 c.args.ends.now c.args.len c.args.start c.args.end c.requires.order c.requires.chain)

pub returns-clause-within : goal.returns-clause-within
returns-clause-within c = rw c.start_of-2.ensures (start_within 0 c.args.ends.now c.args.len c.args.end c.requires.chain)
