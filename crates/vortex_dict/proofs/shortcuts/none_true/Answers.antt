use Rattle.std.proofs.Common.{◌∙◌, sym}
use Rattle.std.proofs.lemmas.Bool.{false≢true}
use Rattle.std.proofs.lemmas.Result.{IfOk-weaker}
use Rattle.vortex_buffer.specs.declared.compare_operator.CompareOperator.TheVariants.{Lt}
use Rattle.vortex_array.specs.ColumnOf.{column_of}
use Rattle.vortex_dict.proofs.Short.{code-kind, none-below, told-column, zero-code}
use Rattle.vortex_dict.proofs.shortcuts.none_true.Goals as goal

pub unreachable-requires : goal.unreachable-requires
unreachable-requires c =
    false≢true (sym c.in-None.ensures.none ∙ zero-code (column_of c.args.codes.now).dtype c.requires.codes.kind)

pub codes_stand-requires : goal.codes_stand-requires
codes_stand-requires c =
    rw c.in-Some.ensures.some (code-kind (column_of c.args.codes.now).dtype c.nullability.result c.requires.codes.kind)

pub returns : goal.returns
returns c =
    let t = c.args.truths.now in
    IfOk-weaker c.codes_stand.result _ _
    (λ a e.
    e
    ∙ rw (c.in-Some.ensures.some, c.nullability.ensures, c.validity.ensures.value)
    (told-column Lt 0 t.values t.validity (column_of c.args.codes.now) c.requires.present (λ i l. none-below i t.values (c.requires.none i)) c.requires.codes))
    c.codes_stand.ensures
