use Rattle.std.proofs.Common.{◌∙◌, ap, map, subst, sym, Some}
use Rattle.std.specs.Prelude.{IsTrue}
use Rattle.std.proofs.lemmas.Result.{IfOk-weaker}
use Rattle.vortex_array_types.specs.Typed.{is_truth_value}
use Rattle.vortex_array_kinds.specs.Truths.{answer_in, answers}
use Rattle.vortex_array.specs.ColumnOf.{bool_column}
use Rattle.vortex_table_chunks.proofs.NamedChunks.{constant-operand}
use Rattle.vortex_table_chunks.proofs.OperandColumns.{equal-rows, named-is, named-there}
use Rattle.vortex_table_chunks.proofs.operands.truth_operands.Goals as goal

pub chunk_named-requires : goal.chunk_named-requires
chunk_named-requires c =
    named-there c.args.columns.now c.args.chunks.now c.args.x.now c.in-Column.name c.as_str.result.now c.requires.there c.in-Column.is c.as_str.ensures

pub truth_rows-requires : goal.truth_rows-requires
truth_rows-requires c =
    let held = named-is c.args.rows c.args.columns.now c.args.chunks.now c.args.x.now c.in-Column.name c.as_str.result.now c.chunk_named.result.now c.requires.fits c.in-Column.is c.as_str.ensures c.chunk_named.ensures in
    subst (λ o. IsTrue (is_truth_value o)) (sym held.dtype) c.requires.kind

pub returns-in-Column : goal.returns-in-Column
returns-in-Column c =
    let held = named-is c.args.rows c.args.columns.now c.args.chunks.now c.args.x.now c.in-Column.name c.as_str.result.now c.chunk_named.result.now c.requires.fits c.in-Column.is c.as_str.ensures c.chunk_named.ensures in
    IfOk-weaker c.truth_rows.result _ _ (λ a e. e ∙ ap (map answer_in) held.rows) c.truth_rows.ensures

pub returns-in-Constant : goal.returns-in-Constant
returns-in-Constant c =
    let equal = constant-operand c.args.rows c.args.columns.now c.args.chunks.now c.args.x.now c.in-Constant.scalar c.in-Constant.is in
    IfOk-weaker c.repeated_truth.result _ _ (λ a e. equal-rows answer_in c.args.rows c.in-Constant.scalar.value _ (answers (bool_column a)) e equal) c.repeated_truth.ensures
