use Rattle.std.proofs.Common.{ℕ, ◌∙◌, Option, ap}
use Rattle.vortex_array_types.specs.Row.{Column, TypedRow}
use Rattle.vortex_array_types.specs.declared.scalar.Value.{Value}
use Rattle.vortex_array_kinds.specs.Kinds.{constant_column}
use Rattle.vortex_array_select.specs.Selected.{taken}
use Rattle.vortex_array.specs.ColumnOf.{column_of}
use Rattle.vortex_dict_builders.proofs.Repeats.{nulls-taken}
use Rattle.vortex_dict_builders.proofs.repeated.null_rows.Goals as goal

pub returns-clause-column : goal.returns-clause-column
returns-clause-column c =
    let k = c.args.row.now in
    c.in_ok-rows.ensures.column
    ∙ ap (λ (indices : Column). taken indices (column_of c.in_ok-none.none)) (c.equal_rows-nulls.ensures ∙ ap (λ (s : TypedRow). constant_column (record { scalar = s; len = c.len.result })) c.null_index.ensures)
    ∙ nulls-taken k.scalar.dtype c.len.result (column_of c.in_ok-none.none) c.in_ok-none.ensures.dtype c.requires.nullable
    ∙ ap (λ (r : Option Value). constant_column (record { scalar = record { dtype = k.scalar.dtype; value = r }; len = c.len.result })) c.requires.null
    ∙ ap (λ (n : ℕ). constant_column (record { scalar = k.scalar; len = n })) c.len.ensures.count
