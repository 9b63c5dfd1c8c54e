use Rattle.std.proofs.Common.{◌∙◌, ◌<◌, sym, arith, length}
use Rattle.vortex_array_kinds.proofs.RowLemmas.{length-rows}
use Rattle.vortex_array_order.proofs.RowsUnder.{some-at}
use Rattle.vortex_array_order.proofs.compared.Rows.is_value.Goals as goal

pub returns : goal.returns
returns g c =
    let v = c.self.inside.validity.now in
    let xs = g.C.Compared.items c.self.inside.values.now in
    let inside : c.args.i < length xs = omega (arith, (rw (← c.self.view_is) at c.requires), length-rows v xs c.self.invariant) in
    rw (← c.self.view_is) (c.is_valid.ensures ∙ sym (some-at v xs c.args.i c.self.invariant inside))
