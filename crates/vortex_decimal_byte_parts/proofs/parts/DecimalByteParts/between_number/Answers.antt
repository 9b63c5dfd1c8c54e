use Rattle.std.proofs.Common.{◌≡◌, ◌∙◌, FitsSigned, None, Some, ap, map, of_z, replicate, rules, to_z}
use Rattle.std.specs.Prelude.{IsTrue, option_map}
use Rattle.std.specs.Int.{w128}
use Rattle.std.proofs.lemmas.Int.{to_z-of_z}
use Rattle.vortex_array_types.specs.Row.{TypedRow, fits_type, nullability}
use Rattle.vortex_array_types.specs.declared.scalar.Value.TheVariants.{Decimal}
use Rattle.vortex_array_types.specs.declared.types.Nullability.TheVariants as nulls
use Rattle.vortex_array_kinds.specs.Truths.{either, truths}
use Rattle.vortex_array.specs.ColumnOf.{column_of}
use Rattle.vortex_decimal_byte_parts.specs.Columns.{parts_column}
use Rattle.vortex_decimal_byte_parts.specs.Held.{asked_row, number_between}
use Rattle.vortex_decimal_byte_parts.proofs.AskedRows.{bounded-asked, parts-decimal}
use Rattle.vortex_decimal_byte_parts.proofs.ComparedParts.{bounded-high-null}
use Rattle.vortex_decimal_byte_parts.proofs.parts.DecimalByteParts.between_number.Goals as goal

pub returns-in_ok-answers-in-Some : goal.returns-in_ok-answers-in-Some
returns-in_ok-answers-in-Some c =
    let p = c.args.self.now in
    let k = c.args.lower.now in
    let l = c.args.upper.now in
    let is : Some (Decimal c.in-Some.greatest) ≡ l.scalar.value = c.in-Some.ensures.value ∙ ap (λ (s : TypedRow). s.value) c.scalar.ensures in
    let kind : c.either_nullability-nullability.result ≡ either (nullability k.scalar.dtype) (nullability l.scalar.dtype) =
    c.either_nullability-nullability.ensures ∙ ap (λ t. either (nullability t) (nullability c.dtype-2.result)) c.dtype.ensures ∙ ap (λ t. either (nullability k.scalar.dtype) (nullability t)) c.dtype-2.ensures in
    let fits-least : FitsSigned w128 c.args.least = search rules in
    let fits-greatest : FitsSigned w128 c.in-Some.greatest = search rules in
    c.in_ok-answers-in-Some.ensures
    ∙ ap (λ n. truths (either (nullability (parts_column p).dtype) c.either_nullability-nullability.result) (map (asked_row (number_between c.args.options.now n (to_z w128 (of_z w128 c.in-Some.greatest)))) (parts_column p).rows)) (to_z-of_z w128 c.args.least fits-least)
    ∙ ap (λ n. truths (either (nullability (parts_column p).dtype) c.either_nullability-nullability.result) (map (asked_row (number_between c.args.options.now c.args.least n)) (parts_column p).rows)) (to_z-of_z w128 c.in-Some.greatest fits-greatest)
    ∙ bounded-asked c.args.options.now c.args.least c.in-Some.greatest (parts_column p) k l c.either_nullability-nullability.result (parts-decimal (column_of p.msp).rows (option_map (λ a. (column_of a).rows) p.lower)) c.requires.least is kind c.requires.lower_length c.requires.upper_length

pub returns-in_ok-answers-in-None : goal.returns-in_ok-answers-in-None
returns-in_ok-answers-in-None c =
    let k = c.args.upper.now in
    let is : None ≡ k.scalar.value = c.in-None.ensures.value ∙ ap (λ (s : TypedRow). s.value) c.scalar.ensures in
    let fits : IsTrue (fits_type k.scalar.dtype k.scalar.value) = rw c.scalar.ensures at c.in-None.ensures.fits in
    c.in_ok-answers-in-None.ensures
    ∙ ap (λ m. truths nulls.Nullable (replicate m None)) c.len.ensures.count
    ∙ bounded-high-null c.args.options.now (parts_column c.args.self.now) c.args.lower.now k is fits c.requires.lower_length c.requires.upper_length
