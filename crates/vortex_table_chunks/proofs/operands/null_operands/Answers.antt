use Rattle.std.proofs.Common.{◌∙◌, ap, map, Some}
use Rattle.std.specs.Prelude.{is_none}
use Rattle.std.proofs.lemmas.Result.{IfOk-weaker}
use Rattle.vortex_array_kinds.specs.Truths.{answers}
use Rattle.vortex_array.specs.ColumnOf.{bool_column}
use Rattle.vortex_table_chunks.proofs.NamedChunks.{constant-operand}
use Rattle.vortex_table_chunks.proofs.OperandColumns.{equal-rows, named-is, named-there}
use Rattle.vortex_table_chunks.proofs.operands.null_operands.Goals as goal

pub chunk_named-requires : goal.chunk_named-requires
chunk_named-requires c =
    named-there c.args.columns.now c.args.chunks.now c.args.x.now c.in-Column.name c.as_str.result.now c.requires.there c.in-Column.is c.as_str.ensures

pub returns-in-Column : goal.returns-in-Column
returns-in-Column c =
    let held = named-is c.args.rows c.args.columns.now c.args.chunks.now c.args.x.now c.in-Column.name c.as_str.result.now c.chunk_named.result.now c.requires.fits c.in-Column.is c.as_str.ensures c.chunk_named.ensures in
    IfOk-weaker c.null_rows.result _ _ (λ a e. e ∙ ap (map (λ row. Some (is_none row))) held.rows) c.null_rows.ensures

pub returns-in-Constant : goal.returns-in-Constant
returns-in-Constant c =
    let equal = constant-operand c.args.rows c.args.columns.now c.args.chunks.now c.args.x.now c.in-Constant.scalar c.in-Constant.is in
    IfOk-weaker c.repeated_null.result _ _ (λ a e. equal-rows (λ row. Some (is_none row)) c.args.rows c.in-Constant.scalar.value _ (answers (bool_column a)) e equal) c.repeated_null.ensures
