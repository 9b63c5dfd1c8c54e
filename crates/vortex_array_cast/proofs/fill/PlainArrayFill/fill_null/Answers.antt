use Rattle.std.proofs.Common.{◌∙◌, ◌≡◌, ap, length, sym}
use Rattle.std.specs.Prelude.{IsTrue}
use Rattle.vortex_array_types.specs.Seen.{value_seen}
use Rattle.vortex_array_types.specs.declared.types.Nullability.{Nullability}
use Rattle.vortex_array_types.specs.declared.types.Nullability.TheVariants.{NonNullable}
use Rattle.vortex_array_types.proofs.SameTypes.{fits-with}
use Rattle.vortex_array_kinds.specs.Kinds.{plain_column}
use Rattle.vortex_array_kinds.specs.Validities.{is_as_long, nullability_of, valid_bits}
use Rattle.vortex_array_cast.specs.Filled.{filled_items}
use Rattle.vortex_array_cast.proofs.CastTypes.{same-fits}
use Rattle.vortex_array_cast.proofs.FilledRows.{filled-plain}
use Rattle.vortex_array_cast.proofs.fill.PlainArrayFill.fill_null.Goals as goal

pub filled_values-requires-clause-fits : goal.filled_values-requires-clause-fits
filled_values-requires-clause-fits g c =
    let a = c.args.self.now in
    let own : Nullability = nullability_of a.validity in
    rw (c.stored.ensures.value, g.V.Values.alike a.values own NonNullable, fits-with NonNullable (g.V.Values.type_of a.values own) (value_seen c.args.value))
    (sym (same-fits (g.V.Values.type_of a.values own) c.args.dtype (value_seen c.args.value) c.requires.same_type) ∙ c.requires.fits)

pub new-requires : goal.new-requires
new-requires g c = c.of_values.ensures.long _

pub returns : goal.returns
returns g c =
    let a = c.args.self.now in
    let items = g.V.Values.items in
    let long : IsTrue (is_as_long a.validity (length (items a.values))) = rw (g.V.Values.counted a.values) c.stored.ensures.fits in
    let is : items c.in_ok-filled.filled ≡ filled_items (value_seen c.args.value) (items a.values) (valid_bits a.validity (length (items a.values))) = rw (g.V.Values.counted a.values) (rw (c.stored.ensures.value, c.validity.ensures.value) at c.in_ok-filled.ensures.ok) in
    ap (plain_column g.V.Values.type_of items) c.new.ensures
    ∙ filled-plain g.V.Values.type_of items g.V.Values.alike a c.in_ok-filled.filled c.of_values.result c.args.dtype (value_seen c.args.value) long c.requires.same_type
    (c.of_values.ensures.kind ∙ c.nullability.ensures) c.of_values.ensures.present (λ n. rw c.stored.ensures.value at (c.in_ok-filled.ensures.same_type n)) is
