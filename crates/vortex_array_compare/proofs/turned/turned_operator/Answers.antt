use Rattle.vortex_array_compare.proofs.TurnedRound.{turned_round}
use Rattle.vortex_array_compare.proofs.turned.turned_operator.Goals as goal

pub returns-clause-meaning : goal.returns-clause-meaning
returns-clause-meaning c = rw c.the_other_way-turned.ensures (turned_round c.args.operator)
