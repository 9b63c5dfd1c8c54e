use Rattle.std.proofs.Common.{◌∙◌, ◌≡◌, ap, length, sym}
use Rattle.std.specs.Prelude.{IsTrue}
use Rattle.std.proofs.lemmas.Result.{IfOk-weaker}
use Rattle.vortex_array_types.specs.Row.{value_fits}
use Rattle.vortex_array_types.specs.declared.types.Nullability.TheVariants.{NonNullable}
use Rattle.vortex_array_kinds.specs.Kinds.{plain_column}
use Rattle.vortex_array_kinds.specs.Validities.{is_as_long, nullability_of}
use Rattle.vortex_array_cast.specs.Casts.{AreCast, can_cast}
use Rattle.vortex_array_cast.proofs.CastRows.{cast-plain}
use Rattle.vortex_array_cast.proofs.CastTypes.{can-from}
use Rattle.vortex_array_cast.proofs.cast.PlainArrayCast.cast.Goals as goal

pub cast_values-requires : goal.cast_values-requires
cast_values-requires g c =
    let a = c.args.self.now in
    let t = c.args.dtype.now in
    record {
      castable =
          rw c.stored.ensures.value
          (ap (λ s. can_cast s t) (g.V.Values.alike a.values (nullability_of a.validity) NonNullable)
          ∙ can-from (g.V.Values.type_of a.values (nullability_of a.validity)) t NonNullable
          ∙ sym (rw c.dtype.ensures at c.is_castable.ensures)
          ∙ c.if-not-is_castable.false);
    }

pub returns-in-None-clause-ok : goal.returns-in-None-clause-ok
returns-in-None-clause-ok g c =
    let a = c.args.self.now in
    let t = c.args.dtype.now in
    let items = g.V.Values.items in
    let made = c.in-Ok.values in
    let same : g.V.Values.count_of made ≡ g.V.Values.count_of a.values = rw c.stored.ensures.value at c.in-Ok.ensures.same_length in
    let cast : AreCast (value_fits t) (items a.values) (items made) = rw c.stored.ensures.value at c.in-Ok.ensures.ok in
    let long : IsTrue (is_as_long a.validity (length (items a.values))) = rw (g.V.Values.counted a.values) c.stored.ensures.fits in
    IfOk-weaker c.with_validity.result _ _
    (λ b is.
    ap (plain_column g.V.Values.type_of items) (rw (c.validity.ensures.value, c.nullability.ensures) at is)
    ∙ cast-plain g.V.Values.type_of items a made t (g.V.Values.counted made ∙ same ∙ sym (g.V.Values.counted a.values)) long c.in-Ok.ensures.same_type cast c.in-None.ensures.rows)
    c.with_validity.ensures.ok
