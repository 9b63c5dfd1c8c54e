use Rattle.std.proofs.Common.{refl}
use Rattle.vortex_array_types.specs.declared.types.Nullability.TheVariants.{NonNullable}
use Rattle.vortex_array_types.specs.declared.types.DType.TheVariants as dtype
use Rattle.vortex_array_types.specs.declared.scalar.Value.TheVariants as value
use Rattle.vortex_array_cast.proofs.CastTypes.{all-map}
use Rattle.vortex_array_cast.proofs.bools.BitBufferCastValues.cast_values.Goals as goal

pub cast_same-requires-clause-fits : goal.cast_same-requires-clause-fits
cast_same-requires-clause-fits c = all-map (λ x. value.Bool x) (dtype.Bool NonNullable) (λ x. refl) c.args.self.now
