use Rattle.std.proofs.Common.{◌∙◌, ap, sym}
use Rattle.vortex_array_types.specs.declared.types.Nullability.TheVariants.{NonNullable}
use Rattle.vortex_array_types.proofs.SameTypes.{same-type}
use Rattle.vortex_array_cast.proofs.CastTypes.{same-all-fit}
use Rattle.vortex_array_cast.proofs.cast.cast_same.Goals as goal

pub returns-clause-same_type : goal.returns-clause-same_type
returns-clause-same_type g c =
    let x = c.args.values.now in
    λ n. ap (λ y. g.V.Values.type_of y n) c.in_ok-copy.ensures ∙ g.V.Values.alike x NonNullable n ∙ same-type (g.V.Values.type_of x NonNullable) c.args.dtype.now n c.requires.same_type

pub returns-clause-fits : goal.returns-clause-fits
returns-clause-fits g c =
    let x = c.args.values.now in
    sym (same-all-fit (g.V.Values.type_of x NonNullable) c.args.dtype.now (g.V.Values.items x) c.requires.same_type ∙ c.requires.fits)
