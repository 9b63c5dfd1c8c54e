use Rattle.std.proofs.lemmas.Bool.{false≢true}
use Rattle.vortex_array_order.proofs.NullRows.{in-no-order}
use Rattle.vortex_array_order.proofs.order.are_ordered.Goals as goal

pub returns-in-Behind : goal.returns-in-Behind
returns-in-Behind g c = ((λ t. absurd (false≢true t)), (λ h. absurd (in-no-order c.args.order c.args.rows.now _ c.in-Behind.ensures h)))
