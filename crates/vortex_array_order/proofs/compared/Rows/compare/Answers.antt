use Rattle.vortex_array_order.proofs.RowsUnder.{some-inside, value-at}
use Rattle.vortex_array_order.proofs.compared.Rows.compare.Goals as goal

pub compare-requires-clause-first : goal.compare-requires-clause-first
compare-requires-clause-first g c = some-inside c.self.inside.validity.now (g.C.Compared.items c.self.inside.values.now) c.args.i c.self.invariant (rw (← c.self.view_is) at c.requires.first)

pub compare-requires-clause-second : goal.compare-requires-clause-second
compare-requires-clause-second g c = some-inside c.self.inside.validity.now (g.C.Compared.items c.self.inside.values.now) c.args.j c.self.invariant (rw (← c.self.view_is) at c.requires.second)

pub returns : goal.returns
returns g c =
    let v = c.self.inside.validity.now in
    let xs = g.C.Compared.items c.self.inside.values.now in
    rw (← c.self.view_is)
    (rw (value-at v xs c.args.i c.self.invariant (rw (← c.self.view_is) at c.requires.first), value-at v xs c.args.j c.self.invariant (rw (← c.self.view_is) at c.requires.second)) c.compare.ensures)
