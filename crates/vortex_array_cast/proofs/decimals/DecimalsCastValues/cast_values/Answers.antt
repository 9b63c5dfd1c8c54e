use Rattle.std.proofs.Common.{refl}
use Rattle.vortex_array_types.specs.declared.types.Nullability.TheVariants.{NonNullable}
use Rattle.vortex_array_types.specs.declared.types.DType.TheVariants as dtype
use Rattle.vortex_array_types.specs.declared.scalar.Value.TheVariants as value
use Rattle.vortex_array_kinds.specs.Kinds.{unscaled_of}
use Rattle.vortex_array_cast.proofs.CastTypes.{all-map}
use Rattle.vortex_array_cast.proofs.decimals.DecimalsCastValues.cast_values.Goals as goal

pub cast_same-requires-clause-fits : goal.cast_same-requires-clause-fits
cast_same-requires-clause-fits c = all-map (λ x. value.Decimal x) (dtype.Decimal c.args.self.now.digits NonNullable) (λ x. refl) (unscaled_of c.args.self.now.numbers)
