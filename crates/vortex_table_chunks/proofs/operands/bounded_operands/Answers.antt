use Rattle.std.proofs.Common.{◌∙◌, sym}
use Rattle.vortex_array_types.specs.Typed.{operand_type}
use Rattle.vortex_array.specs.ColumnOf.{bool_column, column_of}
use Rattle.vortex_table_chunks.specs.ChunkOf.{chunk_column}
use Rattle.vortex_table_chunks.proofs.OperandColumns.{bounded-answers, constant-is, named-is, named-there, same-types}
use Rattle.vortex_table_chunks.proofs.operands.bounded_operands.Goals as goal

pub chunk_named-chunk-requires : goal.chunk_named-chunk-requires
chunk_named-chunk-requires c =
    named-there c.args.columns.now c.args.chunks.now c.args.x.now c.in-Column.name c.as_str.result.now c.requires.value c.in-Column.is c.as_str.ensures

pub bounded_by-requires : goal.bounded_by-requires
bounded_by-requires c =
    let columns = c.args.columns.now in
    let held = named-is c.args.rows columns c.args.chunks.now c.args.x.now c.in-Column.name c.as_str.result.now c.chunk_named-chunk.result.now c.requires.fits c.in-Column.is c.as_str.ensures c.chunk_named-chunk.ensures in
    record {
      lower_length = held.long ∙ sym c.in_ok-lower.ensures.long;
      lower_type = same-types _ _ (operand_type columns c.args.x.now) (operand_type columns c.args.lower.now) held.dtype c.in_ok-lower.ensures.dtype c.requires.lower_type;
      upper_length = held.long ∙ sym c.in_ok-upper.ensures.long;
      upper_type = same-types _ _ (operand_type columns c.args.x.now) (operand_type columns c.args.upper.now) held.dtype c.in_ok-upper.ensures.dtype c.requires.upper_type;
    }

pub returns-in-Column : goal.returns-in-Column
returns-in-Column c =
    let held = named-is c.args.rows c.args.columns.now c.args.chunks.now c.args.x.now c.in-Column.name c.as_str.result.now c.chunk_named-chunk.result.now c.requires.fits c.in-Column.is c.as_str.ensures c.chunk_named-chunk.ensures in
    bounded-answers c.args.options.now (chunk_column c.chunk_named-chunk.result.now) (column_of c.in_ok-lower.lower) (column_of c.in_ok-upper.upper) (bool_column c.in_ok-answers-in-Column.answers) _ _ _ c.in_ok-answers-in-Column.ensures held.rows c.in_ok-lower.ensures.rows c.in_ok-upper.ensures.rows

pub between-requires : goal.between-requires
between-requires c =
    let columns = c.args.columns.now in
    let held = constant-is c.args.rows columns c.args.chunks.now c.args.x.now c.in-Constant.scalar (column_of c.in_ok-row-in-Constant.row) c.in-Constant.is c.in_ok-row-in-Constant.ensures in
    record {
      lower_length = held.long ∙ sym c.in_ok-lower.ensures.long;
      lower_type = same-types _ _ (operand_type columns c.args.x.now) (operand_type columns c.args.lower.now) held.dtype c.in_ok-lower.ensures.dtype c.requires.lower_type;
      upper_length = held.long ∙ sym c.in_ok-upper.ensures.long;
      upper_type = same-types _ _ (operand_type columns c.args.x.now) (operand_type columns c.args.upper.now) held.dtype c.in_ok-upper.ensures.dtype c.requires.upper_type;
    }

pub returns : goal.returns
returns c =
    let held = constant-is c.args.rows c.args.columns.now c.args.chunks.now c.args.x.now c.in-Constant.scalar (column_of c.in_ok-row-in-Constant.row) c.in-Constant.is c.in_ok-row-in-Constant.ensures in
    bounded-answers c.args.options.now (column_of c.in_ok-row-in-Constant.row) (column_of c.in_ok-lower.lower) (column_of c.in_ok-upper.upper) (bool_column c.in_ok-answers-in-Constant.answers) _ _ _ c.in_ok-answers-in-Constant.ensures held.rows c.in_ok-lower.ensures.rows c.in_ok-upper.ensures.rows
