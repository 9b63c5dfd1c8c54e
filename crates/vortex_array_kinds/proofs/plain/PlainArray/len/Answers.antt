use Rattle.std.proofs.Common.{◌∙◌, sym}
use Rattle.vortex_array_kinds.proofs.RowLemmas.{rows-counted}
use Rattle.vortex_array_kinds.proofs.plain.PlainArray.len.Goals as goal

pub returns-clause-rows : goal.returns-clause-rows
returns-clause-rows g c =
    let x = c.self.inside.values in
    rw (← c.self.view_is) (c.count.ensures ∙ sym (rows-counted c.self.inside.validity (g.V.Values.items x) (g.V.Values.count_of x) (g.V.Values.counted x) c.self.invariant))
