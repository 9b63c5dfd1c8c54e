use Rattle.std.proofs.Common.{◌≡◌, ◌∙◌, Some, None, Option, ap, sym}
use Rattle.std.specs.Prelude.{IfSome}
use Rattle.vortex_array_types.specs.Row.{Column}
use Rattle.vortex_array_select.specs.Selected.{taken}
use Rattle.vortex_array.specs.ColumnOf.{column_of}
use Rattle.vortex_decimal_byte_parts.specs.Columns.{Parts, parts_column}
use Rattle.vortex_decimal_byte_parts.proofs.laws.taken_as_decoded.Goals as goal

same-for : (found : Option Parts) (a b : Column) → a ≡ b → IfSome found (λ p. parts_column p ≡ a) → IfSome found (λ p. parts_column p ≡ b)
same-for None a b e h = h
same-for (Some p) a b e h = h ∙ e

pub returns : goal.returns
returns c =
    same-for c.in_ok-some.some (taken (column_of c.args.indices.now) (parts_column c.args.parts.now)) (column_of c.in_ok-others.others)
    (ap (taken (column_of c.args.indices.now)) (sym c.requires.same) ∙ sym c.in_ok-others.ensures.column)
    c.in_ok-some.ensures.ok
