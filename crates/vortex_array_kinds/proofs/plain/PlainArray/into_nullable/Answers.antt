use Rattle.vortex_array_kinds.proofs.RowLemmas.{nullable-plain}
use Rattle.vortex_array_kinds.proofs.plain.PlainArray.into_nullable.Goals as goal

pub returns-clause-column : goal.returns-clause-column
returns-clause-column g c =
    let x = c.self.inside.values in
    rw (← c.self.view_is, c.into_nullable.ensures) (nullable-plain g.V.Values.type_of g.V.Values.items x c.self.inside.validity (g.V.Values.alike x))
