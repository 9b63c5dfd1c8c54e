use Rattle.std.proofs.Common.{◌∙◌, refl, sym, Some}
use Rattle.vortex_array_types.specs.Typed.{operand_type}
use Rattle.vortex_array.specs.ColumnOf.{bool_column, column_of}
use Rattle.vortex_table_chunks.specs.ChunkOf.{chunk_column}
use Rattle.vortex_table_chunks.proofs.OperandColumns.{compared-answers, constant-is, named-is, named-there, same-turned, same-types}
use Rattle.vortex_table_chunks.proofs.operands.compared_from.Goals as goal

pub chunk_named-chunk-requires : goal.chunk_named-chunk-requires
chunk_named-chunk-requires c =
    named-there c.args.columns.now c.args.chunks.now c.args.y.now c.in-Column.name c.as_str.result.now c.requires.right c.in-Column.is c.as_str.ensures

pub compared_with-requires : goal.compared_with-requires
compared_with-requires c =
    let columns = c.args.columns.now in
    let left = column_of c.args.left.now in
    let held = named-is c.args.rows columns c.args.chunks.now c.args.y.now c.in-Column.name c.as_str.result.now c.chunk_named-chunk.result.now c.requires.fits c.in-Column.is c.as_str.ensures c.chunk_named-chunk.ensures in
    record {
      same_length = held.long ∙ sym c.requires.long;
      same_type = same-turned left.dtype _ (same-types left.dtype _ (Some left.dtype) (operand_type columns c.args.y.now) refl held.dtype c.requires.types);
    }

pub returns-in_ok-answers-in-Column : goal.returns-in_ok-answers-in-Column
returns-in_ok-answers-in-Column c =
    let left = column_of c.args.left.now in
    let chunk = chunk_column c.chunk_named-chunk.result.now in
    let held = named-is c.args.rows c.args.columns.now c.args.chunks.now c.args.y.now c.in-Column.name c.as_str.result.now c.chunk_named-chunk.result.now c.requires.fits c.in-Column.is c.as_str.ensures c.chunk_named-chunk.ensures in
    compared-answers c.args.operator left chunk (bool_column c.in_ok-answers-in-Column.answers) left.rows _ (c.in_ok-answers-in-Column.ensures ∙ c.turned_operator.ensures.meaning left chunk) refl held.rows

pub compare-requires : goal.compare-requires
compare-requires c =
    let columns = c.args.columns.now in
    let left = column_of c.args.left.now in
    let held = constant-is c.args.rows columns c.args.chunks.now c.args.y.now c.in-Constant.scalar (column_of c.in_ok-right-in-Constant.right) c.in-Constant.is c.in_ok-right-in-Constant.ensures in
    record {
      same_length = c.requires.long ∙ sym held.long;
      same_type = same-types left.dtype _ (Some left.dtype) (operand_type columns c.args.y.now) refl held.dtype c.requires.types;
    }

pub returns-in_ok-answers-in-Constant : goal.returns-in_ok-answers-in-Constant
returns-in_ok-answers-in-Constant c =
    let left = column_of c.args.left.now in
    let held = constant-is c.args.rows c.args.columns.now c.args.chunks.now c.args.y.now c.in-Constant.scalar (column_of c.in_ok-right-in-Constant.right) c.in-Constant.is c.in_ok-right-in-Constant.ensures in
    compared-answers c.args.operator left (column_of c.in_ok-right-in-Constant.right) (bool_column c.in_ok-answers-in-Constant.answers) left.rows _ c.in_ok-answers-in-Constant.ensures refl held.rows
