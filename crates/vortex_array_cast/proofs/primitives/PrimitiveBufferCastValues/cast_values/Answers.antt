use Rattle.std.proofs.Common.{◌∙◌, refl, sym}
use Rattle.std.specs.Prelude.{pos}
use Rattle.std.proofs.lemmas.List.Folds.{list_all-map}
use Rattle.vortex_array_types.specs.Row.{in_width, value_fits}
use Rattle.vortex_array_types.specs.declared.scalar.Value.TheVariants as value
use Rattle.vortex_array_types.specs.declared.types.DType.TheVariants.{Primitive}
use Rattle.vortex_array_kinds.specs.Kinds.{numbers_of}
use Rattle.vortex_array_cast.proofs.CastItems.{cast-map}
use Rattle.vortex_array_cast.proofs.primitives.PrimitiveBufferCastValues.cast_values.Goals as goal

pub returns-clause-ok : goal.returns-clause-ok
returns-clause-ok c =
    let made = c.in_ok-made-in-Primitive in
    let t = Primitive c.in-Primitive.width c.in-Primitive.field-1 in
    rw c.in-Primitive.is (cast-map (λ n. value.Int n) (in_width c.in-Primitive.width) (value_fits t) (numbers_of c.args.self.now) (numbers_of made.made.0) (pos 0) (λ x. refl) made.ensures.same_length made.ensures.ok)

pub returns-clause-fits : goal.returns-clause-fits
returns-clause-fits c =
    let t = Primitive c.in-Primitive.width c.in-Primitive.field-1 in
    rw c.in-Primitive.is (c.in_ok-made-in-Primitive.ensures.fits ∙ sym (list_all-map (value_fits t) (λ n. value.Int n) (numbers_of c.args.self.now)))
