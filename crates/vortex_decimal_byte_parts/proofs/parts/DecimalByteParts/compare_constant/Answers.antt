use Rattle.std.proofs.Common.{◌≡◌, ◌∙◌, FitsSigned, None, Some, ap, map, replicate, rules}
use Rattle.std.specs.Prelude.{IsTrue, option_map}
use Rattle.std.specs.Int.{w128}
use Rattle.std.proofs.lemmas.Int.{to_z-of_z}
use Rattle.vortex_array_types.specs.Order.{compares}
use Rattle.vortex_array_types.specs.Row.{TypedRow, fits_type, nullability}
use Rattle.vortex_array_types.specs.declared.scalar.Value.TheVariants.{Decimal}
use Rattle.vortex_array_types.specs.declared.types.Nullability.TheVariants as nulls
use Rattle.vortex_array_kinds.specs.Truths.{either, truths}
use Rattle.vortex_array_compare.proofs.Equal.{constant-null}
use Rattle.vortex_array.specs.ColumnOf.{column_of}
use Rattle.vortex_decimal_byte_parts.specs.Columns.{parts_column}
use Rattle.vortex_decimal_byte_parts.specs.Held.{asked_row, number_compares}
use Rattle.vortex_decimal_byte_parts.proofs.AskedRows.{compared-asked, parts-decimal}
use Rattle.vortex_decimal_byte_parts.proofs.parts.DecimalByteParts.compare_constant.Goals as goal

pub returns-in_ok-answers-in-Some : goal.returns-in_ok-answers-in-Some
returns-in_ok-answers-in-Some c =
    let p = c.args.self.now in
    let k = c.args.constant.now in
    let is : Some (Decimal c.in-Some.number) ≡ k.scalar.value = c.in-Some.ensures.value ∙ ap (λ (s : TypedRow). s.value) c.scalar.ensures in
    let kind : c.nullability-nullability.result ≡ nullability k.scalar.dtype = c.nullability-nullability.ensures ∙ ap nullability c.dtype.ensures in
    let fits : FitsSigned w128 c.in-Some.number = search rules in
    c.in_ok-answers-in-Some.ensures
    ∙ ap (λ n. truths (either (nullability (parts_column p).dtype) c.nullability-nullability.result) (map (asked_row (number_compares c.args.operator n)) (parts_column p).rows)) (to_z-of_z w128 c.in-Some.number fits)
    ∙ compared-asked c.args.operator c.in-Some.number (parts_column p) k c.nullability-nullability.result (parts-decimal (column_of p.msp).rows (option_map (λ l. (column_of l).rows) p.lower)) is kind c.requires.same_length

pub returns-in_ok-answers-in-None : goal.returns-in_ok-answers-in-None
returns-in_ok-answers-in-None c =
    let k = c.args.constant.now in
    let is : None ≡ k.scalar.value = c.in-None.ensures.value ∙ ap (λ (s : TypedRow). s.value) c.scalar.ensures in
    let fits : IsTrue (fits_type k.scalar.dtype k.scalar.value) = rw c.scalar.ensures at c.in-None.ensures.fits in
    c.in_ok-answers-in-None.ensures
    ∙ ap (λ m. truths nulls.Nullable (replicate m None)) c.len.ensures.count
    ∙ constant-null (compares c.args.operator) (parts_column c.args.self.now) k is fits c.requires.same_length
