use Rattle.std.proofs.Common.{◌∙◌, ap, sym, subst, Some}
use Rattle.std.specs.Prelude.{IsTrue}
use Rattle.std.specs.Simd.Lanes.{zip2}
use Rattle.vortex_array_types.specs.Order.{compares}
use Rattle.vortex_array_types.specs.Truth.{both}
use Rattle.vortex_array_types.specs.Typed.{operand_type, same_type}
use Rattle.vortex_array.specs.ColumnOf.{bool_column, column_of}
use Rattle.vortex_table_chunks.specs.ChunkOf.{chunk_column}
use Rattle.vortex_table_chunks.specs.Rows.{cells_of, values_of}
use Rattle.vortex_table_chunks.proofs.OperandColumns.{compared-answers, constant-is, named-is, named-there, same-types}
use Rattle.vortex_table_chunks.proofs.operands.compared_operands.Goals as goal

pub chunk_named-chunk-requires : goal.chunk_named-chunk-requires
chunk_named-chunk-requires c =
    named-there c.args.columns.now c.args.chunks.now c.args.x.now c.in-Column.name c.as_str.result.now c.requires.left c.in-Column.is c.as_str.ensures

pub compared_with-requires : goal.compared_with-requires
compared_with-requires c =
    let columns = c.args.columns.now in
    let held = named-is c.args.rows columns c.args.chunks.now c.args.x.now c.in-Column.name c.as_str.result.now c.chunk_named-chunk.result.now c.requires.fits c.in-Column.is c.as_str.ensures c.chunk_named-chunk.ensures in
    record {
      same_length = held.long ∙ sym c.in_ok-other-in-Column.ensures.long;
      same_type = same-types _ _ (operand_type columns c.args.x.now) (operand_type columns c.args.y.now) held.dtype c.in_ok-other-in-Column.ensures.dtype c.requires.types;
    }

pub returns-in_ok-answers-in-Column : goal.returns-in_ok-answers-in-Column
returns-in_ok-answers-in-Column c =
    let held = named-is c.args.rows c.args.columns.now c.args.chunks.now c.args.x.now c.in-Column.name c.as_str.result.now c.chunk_named-chunk.result.now c.requires.fits c.in-Column.is c.as_str.ensures c.chunk_named-chunk.ensures in
    compared-answers c.args.operator (chunk_column c.chunk_named-chunk.result.now) (column_of c.in_ok-other-in-Column.other) (bool_column c.in_ok-answers-in-Column.answers) _ _ c.in_ok-answers-in-Column.ensures held.rows c.in_ok-other-in-Column.ensures.rows

pub compared_from-requires : goal.compared_from-requires
compared_from-requires c =
    let columns = c.args.columns.now in
    let held = constant-is c.args.rows columns c.args.chunks.now c.args.x.now c.in-Constant.scalar (column_of c.in_ok-other-in-Constant.other) c.in-Constant.is c.in_ok-other-in-Constant.ensures in
    record {
      fits = c.requires.fits;
      right = c.requires.right;
      long = held.long;
      types = subst (λ o. IsTrue (same_type o (operand_type columns c.args.y.now))) (sym held.dtype) c.requires.types;
    }

pub returns-in_ok-answers-in-Constant : goal.returns-in_ok-answers-in-Constant
returns-in_ok-answers-in-Constant c =
    let columns = c.args.columns.now in
    let held = constant-is c.args.rows columns c.args.chunks.now c.args.x.now c.in-Constant.scalar (column_of c.in_ok-other-in-Constant.other) c.in-Constant.is c.in_ok-other-in-Constant.ensures in
    c.in_ok-answers-in-Constant.ensures ∙ ap (λ rows. zip2 (both (compares c.args.operator)) rows (values_of (cells_of columns c.args.chunks.now c.args.rows) c.args.y.now)) held.rows
