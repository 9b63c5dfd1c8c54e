use Rattle.std.proofs.Common.{map}
use Rattle.vortex_array_types.specs.Typed.{operand_type}
use Rattle.vortex_array_kinds.specs.Truths.{answers}
use Rattle.vortex_array.specs.ColumnOf.{bool_column, column_of}
use Rattle.vortex_table_chunks.specs.ChunkOf.{chunk_column}
use Rattle.vortex_table_chunks.specs.Rows.{cells_of, values_of}
use Rattle.vortex_table_chunks.proofs.NamedChunks.{constant-operand}
use Rattle.vortex_table_chunks.proofs.OperandColumns.{constant-is, liked-rows, named-is, text-type}
use Rattle.vortex_table_chunks.proofs.operands.liked_operands.Goals as goal

pub liked_by-requires-clause-texts : goal.liked_by-requires-clause-texts
liked_by-requires-clause-texts c =
    let columns = c.args.columns.now in
    let chunk = c.chunk_named-chunk.result.now in
    let held = named-is c.args.rows columns c.args.chunks.now c.args.x.now c.in-Column-Constant.name c.as_str.result.now chunk c.requires.fits c.in-Column-Constant.is-0 c.as_str.ensures c.chunk_named-chunk.ensures in
    text-type (chunk_column chunk).dtype (operand_type columns c.args.x.now) held.dtype c.requires.texts

pub returns-in_ok-answers-in-Column-Constant : goal.returns-in_ok-answers-in-Column-Constant
returns-in_ok-answers-in-Column-Constant c =
    let columns = c.args.columns.now in
    let chunks = c.args.chunks.now in
    let n = c.args.rows in
    let chunk = c.chunk_named-chunk.result.now in
    let held = named-is n columns chunks c.args.x.now c.in-Column-Constant.name c.as_str.result.now chunk c.requires.fits c.in-Column-Constant.is-0 c.as_str.ensures c.chunk_named-chunk.ensures in
    let cells = cells_of columns chunks n in
    liked-rows c.in-Column-Constant.pattern.value n (chunk_column chunk).rows (values_of cells c.args.x.now) (values_of cells c.args.pattern.now) (answers (bool_column c.in_ok-answers-in-Column-Constant.answers))
    c.in_ok-answers-in-Column-Constant.ensures held.rows held.long
    (constant-operand n columns chunks c.args.pattern.now c.in-Column-Constant.pattern c.in-Column-Constant.is-1)

pub returns-in_ok-answers-in-Constant-Constant : goal.returns-in_ok-answers-in-Constant-Constant
returns-in_ok-answers-in-Constant-Constant c =
    let columns = c.args.columns.now in
    let chunks = c.args.chunks.now in
    let n = c.args.rows in
    let texts = column_of c.in_ok-repeated-in-Constant-Constant.field-0 in
    let held = constant-is n columns chunks c.args.x.now c.in-Constant-Constant.text texts c.in-Constant-Constant.is-0 c.in_ok-repeated-in-Constant-Constant.ensures in
    let cells = cells_of columns chunks n in
    liked-rows c.in-Constant-Constant.pattern.value n texts.rows (values_of cells c.args.x.now) (values_of cells c.args.pattern.now) (answers (bool_column c.in_ok-answers-in-Constant-Constant.answers))
    c.in_ok-answers-in-Constant-Constant.ensures held.rows held.long
    (constant-operand n columns chunks c.args.pattern.now c.in-Constant-Constant.pattern c.in-Constant-Constant.is-1)
