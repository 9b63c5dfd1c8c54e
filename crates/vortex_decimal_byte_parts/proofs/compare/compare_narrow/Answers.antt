use Rattle.std.proofs.Common.{ℕ, ◌≡◌, ◌∙◌, FitsSigned, Some, ap, rules}
use Rattle.std.specs.Prelude.{ℤ}
use Rattle.std.specs.Int.{w128}
use Rattle.std.proofs.lemmas.Int.{to_z-of_z}
use Rattle.vortex_array_types.specs.Row.{TypedRow}
use Rattle.vortex_array_types.specs.declared.types.DType.{DType}
use Rattle.vortex_array_types.specs.declared.scalar.Value.TheVariants.{Int}
use Rattle.vortex_array_types.specs.declared.types.DType.TheVariants.{Primitive}
use Rattle.vortex_array_kinds.specs.Kinds.{constant_column}
use Rattle.vortex_array_kinds.specs.Parts.{ConstantParts}
use Rattle.vortex_array_kinds.specs.Truths.{compared}
use Rattle.vortex_array.specs.ColumnOf.{column_of}
use Rattle.vortex_decimal_byte_parts.specs.Held.{part_numbers}
use Rattle.vortex_decimal_byte_parts.proofs.ComparedParts.{compared-whole}
use Rattle.vortex_decimal_byte_parts.proofs.compare.compare_narrow.Goals as goal

abbrev equal_rows : ℕ → TypedRow → ConstantParts
equal_rows len row = record { scalar = row; len = len }

abbrev equal_numbers : DType → ℕ → ℤ → ConstantParts
equal_numbers kind len number = equal_rows len (record { dtype = kind; value = Some (Int number) })

pub returns-in_ok-answers-in-Ok : goal.returns-in_ok-answers-in-Ok
returns-in_ok-answers-in-Ok c =
    let m = c.args.msp.now in
    let fits : FitsSigned w128 c.args.number = search rules in
    let kind = Primitive c.width_of.result c.args.nullability in
    let same : c.new.result ≡ equal_numbers kind c.len.result c.args.number = c.new.ensures ∙ ap (equal_rows c.len.result) c.in-Ok.ensures.ok ∙ ap (equal_numbers kind c.len.result) (to_z-of_z w128 c.args.number fits) in
    c.in_ok-answers-in-Ok.ensures
    ∙ ap (λ (k : ConstantParts). compared c.args.operator (column_of m) (constant_column k)) same
    ∙ compared-whole c.args.operator c.args.number (column_of m) (part_numbers m) (Primitive c.width_of.result c.args.nullability) c.len.result c.rows_hold.ensures.rows c.len.ensures
