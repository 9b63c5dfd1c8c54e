use Rattle.std.proofs.Common.{◌∙◌, ◌<◌, ap, arith, length, false}
use Rattle.vortex_array_types.specs.Row.{nullability}
use Rattle.vortex_array_types.specs.Seen.{value_seen}
use Rattle.vortex_array_types.specs.declared.scalar.Value.TheVariants as value
use Rattle.vortex_array_kinds.specs.Validities.{nullability_of, row_of, valid_at}
use Rattle.vortex_array_kinds.proofs.RowLemmas.{row-fits, row-here, rows-counted}
use Rattle.vortex_array_types.proofs.SameTypes.{nulls-with}
use Rattle.vortex_array_kinds.proofs.plain.PlainArray.value_at.Goals as goal

pub lend-requires : goal.lend-requires
lend-requires g c =
    let x = c.self.inside.values in
    omega (arith, (rw (← c.self.view_is) at c.requires), rows-counted c.self.inside.validity (g.V.Values.items x) (g.V.Values.count_of x) (g.V.Values.counted x) c.self.invariant)

pub returns-clause-value : goal.returns-clause-value
returns-clause-value g c =
    let x = c.self.inside.values in
    let v = c.self.inside.validity in
    let xs = g.V.Values.items x in
    let same = g.V.Values.counted x in
    let inside : c.args.i < length xs = omega (arith, (rw (← c.self.view_is) at c.requires), same, rows-counted v xs (g.V.Values.count_of x) same c.self.invariant) in
    let none = value.Bool false in
    rw (← c.self.view_is)
    (c.row_if.ensures
    ∙ ap (λ b. row_of (value_seen c.lend.result) b) c.is_valid.ensures
    ∙ ap (λ y. row_of y (valid_at v c.args.i)) (c.lend.ensures.value none)
    ∙ row-here v xs c.args.i none (rw same c.self.invariant) inside)

pub returns-clause-fits : goal.returns-clause-fits
returns-clause-fits g c =
    let x = c.self.inside.values in
    let v = c.self.inside.validity in
    let n = nullability_of v in
    let t = g.V.Values.type_of x n in
    let row = c.row_if.ensures ∙ ap (λ b. row_of (value_seen c.lend.result) b) c.is_valid.ensures in
    rw (← c.self.view_is, row) (row-fits t v c.args.i (value_seen c.lend.result) (c.lend.ensures.fits n) (ap nullability (g.V.Values.alike x n n) ∙ nulls-with n t))
