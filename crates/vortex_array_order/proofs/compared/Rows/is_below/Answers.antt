use Rattle.std.proofs.Common.{◌∙◌, sym}
use Rattle.vortex_array_order.proofs.OrderLaws.{below-at_most, turned}
use Rattle.vortex_array_order.proofs.compared.Rows.is_below.Goals as goal

pub returns-clause-below : goal.returns-clause-below
returns-clause-below g c = λ t. below-at_most _ _ c.compare.result c.compare.ensures (sym c.is_lt.ensures ∙ t)

pub returns-clause-not_below : goal.returns-clause-not_below
returns-clause-not_below g c = λ t. turned _ _ c.compare.result c.compare.ensures (sym c.is_lt.ensures ∙ t)
