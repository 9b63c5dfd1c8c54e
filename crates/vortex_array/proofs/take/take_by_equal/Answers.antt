use Rattle.std.proofs.Common.{◌∙◌, ap, length, subst, sym}
use Rattle.vortex_array_types.specs.Row.{Column}
use Rattle.vortex_array_select.specs.Selected.{NamesRows, taken}
use Rattle.vortex_array.specs.ColumnOf.{column_of}
use Rattle.vortex_array.proofs.TakenAt.{index-type}
use Rattle.vortex_array.proofs.take.take_by_equal.Goals as goal

pub primitives_of-requires-clause-kind : goal.primitives_of-requires-clause-kind
primitives_of-requires-clause-kind c = rw c.in_ok-indices.ensures.column (index-type c.args.index.now.scalar.dtype c.requires.kind)

pub take_by_numbers-requires : goal.take_by_numbers-requires
take_by_numbers-requires c =
    subst (λ (d : Column). NamesRows d (length (column_of c.args.array.now).rows)) (sym c.in_ok-indices.ensures.column ∙ c.primitives_of.ensures) c.requires

pub returns-clause-column : goal.returns-clause-column
returns-clause-column c =
    c.in_ok-part.ensures.column ∙ ap (λ (d : Column). taken d (column_of c.args.array.now)) (sym c.primitives_of.ensures ∙ c.in_ok-indices.ensures.column)
