use Rattle.std.proofs.Common.{◌∙◌, ap, length, Some}
use Rattle.std.proofs.lemmas.Result.{IfOk-weaker}
use Rattle.vortex_array_types.specs.Row.{Column}
use Rattle.vortex_array.specs.ColumnOf.{column_of}
use Rattle.vortex_table_chunks.proofs.OperandColumns.{constant-is, named-is, named-there}
use Rattle.vortex_table_chunks.proofs.operands.rows_of.Goals as goal

pub chunk_named-requires : goal.chunk_named-requires
chunk_named-requires c =
    named-there c.args.columns.now c.args.chunks.now c.args.x.now c.in-Column.name c.as_str.result.now c.requires.there c.in-Column.is c.as_str.ensures

pub returns-in-Column-clause-rows : goal.returns-in-Column-clause-rows
returns-in-Column-clause-rows c =
    let held = named-is c.args.rows c.args.columns.now c.args.chunks.now c.args.x.now c.in-Column.name c.as_str.result.now c.chunk_named.result.now c.requires.fits c.in-Column.is c.as_str.ensures c.chunk_named.ensures in
    IfOk-weaker c.decode.result _ _ (λ a e. ap (λ (d : Column). d.rows) e ∙ held.rows) c.decode.ensures.column

pub returns-in-Column-clause-dtype : goal.returns-in-Column-clause-dtype
returns-in-Column-clause-dtype c =
    let held = named-is c.args.rows c.args.columns.now c.args.chunks.now c.args.x.now c.in-Column.name c.as_str.result.now c.chunk_named.result.now c.requires.fits c.in-Column.is c.as_str.ensures c.chunk_named.ensures in
    IfOk-weaker c.decode.result _ _ (λ a e. ap (λ (d : Column). Some d.dtype) e ∙ held.dtype) c.decode.ensures.column

pub returns-in-Column-clause-long : goal.returns-in-Column-clause-long
returns-in-Column-clause-long c =
    let held = named-is c.args.rows c.args.columns.now c.args.chunks.now c.args.x.now c.in-Column.name c.as_str.result.now c.chunk_named.result.now c.requires.fits c.in-Column.is c.as_str.ensures c.chunk_named.ensures in
    IfOk-weaker c.decode.result _ _ (λ a e. ap (λ (d : Column). length d.rows) e ∙ held.long) c.decode.ensures.column

pub returns-in-Constant-clause-rows : goal.returns-in-Constant-clause-rows
returns-in-Constant-clause-rows c =
    IfOk-weaker c.repeated.result _ _ (λ a e. (constant-is c.args.rows c.args.columns.now c.args.chunks.now c.args.x.now c.in-Constant.scalar (column_of a) c.in-Constant.is e).rows) c.repeated.ensures

pub returns-in-Constant-clause-dtype : goal.returns-in-Constant-clause-dtype
returns-in-Constant-clause-dtype c =
    IfOk-weaker c.repeated.result _ _ (λ a e. (constant-is c.args.rows c.args.columns.now c.args.chunks.now c.args.x.now c.in-Constant.scalar (column_of a) c.in-Constant.is e).dtype) c.repeated.ensures

pub returns-in-Constant-clause-long : goal.returns-in-Constant-clause-long
returns-in-Constant-clause-long c =
    IfOk-weaker c.repeated.result _ _ (λ a e. (constant-is c.args.rows c.args.columns.now c.args.chunks.now c.args.x.now c.in-Constant.scalar (column_of a) c.in-Constant.is e).long) c.repeated.ensures
