use Rattle.std.proofs.Common.{◌∙◌, sym}
use Rattle.vortex_array_kinds.proofs.RowLemmas.{length-rows}
use Rattle.vortex_array_order.proofs.compared.Rows.count.Goals as goal

pub returns : goal.returns
returns g c = rw (← c.self.view_is) (c.count.ensures ∙ sym (length-rows c.self.inside.validity.now (g.C.Compared.items c.self.inside.values.now) c.self.invariant))
