use Rattle.std.proofs.Common.{◌≤◌, arith}
use Rattle.vortex_array_kinds.proofs.RowLemmas.{rows-counted}
use Rattle.vortex_array_select.proofs.SelectedRows.{sliced-column, sliced-long}
use Rattle.vortex_array_select.proofs.plain.PlainArraySelect.slice.Goals as goal

pub slice_values-requires-clause-within : goal.slice_values-requires-clause-within
slice_values-requires-clause-within g c =
    let a = c.args.self.now in
    rw c.stored.ensures.value (omega (arith, c.requires.within, rows-counted a.validity (g.V.Values.items a.values) (g.V.Values.count_of a.values) (g.V.Values.counted a.values) c.stored.ensures.fits))

pub slice_validity-requires-clause-within : goal.slice_validity-requires-clause-within
slice_validity-requires-clause-within g c =
    let a = c.args.self.now in
    omega (arith, c.requires.within, rows-counted a.validity (g.V.Values.items a.values) (g.V.Values.count_of a.values) (g.V.Values.counted a.values) c.stored.ensures.fits)

pub new-requires : goal.new-requires
new-requires g c =
    let a = c.args.self.now in
    let within : c.args.end ≤ g.V.Values.count_of a.values = omega (arith, c.requires.within, rows-counted a.validity (g.V.Values.items a.values) (g.V.Values.count_of a.values) (g.V.Values.counted a.values) c.stored.ensures.fits) in
    rw c.in_ok-validity.ensures
    (sliced-long g.V.Values.items g.V.Values.count_of g.V.Values.counted a c.in_ok-values.values c.args.start c.args.end c.stored.ensures.fits c.requires.order within (rw c.stored.ensures.value at c.in_ok-values.ensures.items))

pub returns : goal.returns
returns g c =
    rw (c.new.ensures, c.in_ok-validity.ensures)
    (sliced-column g.V.Values.type_of g.V.Values.items c.args.self.now c.in_ok-values.values c.args.start c.args.end (rw c.stored.ensures.value at c.in_ok-values.ensures.same_type) (rw c.stored.ensures.value at c.in_ok-values.ensures.items))
