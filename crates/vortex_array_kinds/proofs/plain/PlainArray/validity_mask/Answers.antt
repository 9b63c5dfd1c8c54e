use Rattle.std.proofs.Common.{◌∙◌, ap, sym}
use Rattle.vortex_array_kinds.specs.Validities.{valid_bits}
use Rattle.vortex_array_kinds.proofs.RowLemmas.{valid-rows}
use Rattle.vortex_array_kinds.proofs.plain.PlainArray.validity_mask.Goals as goal

pub returns : goal.returns
returns g c =
    let x = c.self.inside.values in
    let v = c.self.inside.validity in
    let same = g.V.Values.counted x in
    rw (← c.self.view_is) (c.in_ok-mask.ensures ∙ ap (valid_bits v) (c.count.ensures ∙ sym same) ∙ valid-rows v (g.V.Values.items x) (rw same c.self.invariant))
