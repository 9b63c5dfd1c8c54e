use Rattle.std.proofs.Common.{arith, None}
use Rattle.std.proofs.lemmas.List.{get_or_default}
use Rattle.vortex_array_kinds.specs.Kinds.{rows_under}
use Rattle.vortex_array_cast.proofs.CastRows.{all-fit}
use Rattle.vortex_array_cast.proofs.refusals.first_unfit.Goals as goal

pub returns-then-nulls_fit : goal.returns-then-nulls_fit
returns-then-nulls_fit g c =
    let a = c.args.array.now in
    let x = a.values in
    all-fit c.args.dtype.now a.validity (g.V.Values.items x) (g.V.Values.count_of x) (g.V.Values.counted x) c.validity.ensures.fits (c.requires c.if-values_fit.true)
    (rw (c.validity.ensures.value, c.len.ensures.values) at (c.nulls_fit.ensures c.if-nulls_fit.true))

pub returns : goal.returns
returns g c =
    let a = c.args.array.now in
    λ k d l. rw (get_or_default (rows_under a.validity (g.V.Values.items a.values)) k d None l) (c.loop-i.invariant k (omega (arith, l, c.len-i-end.ensures.rows)))
