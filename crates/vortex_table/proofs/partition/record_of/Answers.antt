use Rattle.std.proofs.Common.{◌≡◌, ◌∙◌, ap, refl, List, ◌++◌, [], ◌∷◌, map}
use Rattle.vortex_array.specs.ColumnOf.{column_of, primitive_column}
use Rattle.vortex_array_kinds.specs.Parts.{PlainParts}
use Rattle.vortex_array.specs.declared.arrays.Array.{Array}
use Rattle.vortex_array.specs.declared.arrays.Array.TheVariants.{Primitive}
use Rattle.vortex_array_kinds.specs.declared.primitives.PrimitiveBuffer.{PrimitiveBuffer}
use Rattle.vortex_array_kinds.specs.declared.primitives.PrimitiveBuffer.TheVariants.{U64}
use Rattle.vortex_array_kinds.specs.declared.validity.Validity.TheVariants.{NonNullable}
use Rattle.vortex_table.proofs.ReadBack.{values_written}
use Rattle.vortex_table.proofs.partition.record_of.Goals as goal

pub returns-clause-columns : goal.returns-clause-columns
returns-clause-columns c =
    let one : c.push.new.self.items ≡ Primitive c.new.result ∷ [] = c.in_ok-push.ensures.items ∙ ap (λ (xs : List Array). xs ++ Primitive c.new.result ∷ []) c.new-columns.ensures.items in
    ap (λ b. map column_of b.columns) c.in-Ok.ensures.ok ∙ ap (map column_of) one
    ∙ ap (λ (a : PlainParts PrimitiveBuffer). primitive_column a ∷ []) (c.new.ensures ∙ ap (λ b. record { values = U64 b; validity = NonNullable }) c.from_vec.ensures)
    ∙ ap (λ x. x ∷ []) (values_written (U64 c.args.kept.items) NonNullable c.args.kept.items refl refl)
