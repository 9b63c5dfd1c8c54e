use Rattle.std.proofs.Common.{◌≡◌, ◌∙◌, None, ap, replicate}
use Rattle.std.specs.Prelude.{IsTrue}
use Rattle.vortex_array_types.specs.Row.{TypedRow, fits_type}
use Rattle.vortex_array_types.specs.declared.types.Nullability.TheVariants as nulls
use Rattle.vortex_array_kinds.specs.Truths.{truths}
use Rattle.vortex_decimal_byte_parts.specs.Columns.{parts_column}
use Rattle.vortex_decimal_byte_parts.proofs.ComparedParts.{bounded-low-null}
use Rattle.vortex_decimal_byte_parts.proofs.parts.DecimalByteParts.between_constants.Goals as goal

pub returns-in_ok-answers-in-None : goal.returns-in_ok-answers-in-None
returns-in_ok-answers-in-None c =
    let k = c.args.lower.now in
    let is : None ≡ k.scalar.value = c.in-None.ensures.value ∙ ap (λ (s : TypedRow). s.value) c.scalar.ensures in
    let fits : IsTrue (fits_type k.scalar.dtype k.scalar.value) = rw c.scalar.ensures at c.in-None.ensures.fits in
    c.in_ok-answers-in-None.ensures
    ∙ ap (λ m. truths nulls.Nullable (replicate m None)) c.len.ensures.count
    ∙ bounded-low-null c.args.options.now (parts_column c.args.self.now) k c.args.upper.now is fits c.requires.lower_length c.requires.upper_length
