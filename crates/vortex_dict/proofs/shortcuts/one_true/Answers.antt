use Rattle.std.proofs.Common.{◌∙◌}
use Rattle.std.proofs.lemmas.Result.{IfOk-weaker}
use Rattle.vortex_buffer.specs.declared.compare_operator.CompareOperator.TheVariants.{Eq}
use Rattle.vortex_array.specs.ColumnOf.{column_of}
use Rattle.vortex_dict.proofs.Short.{code-kind, only-there, told-column}
use Rattle.vortex_dict.proofs.shortcuts.one_true.Goals as goal

pub codes_stand-requires : goal.codes_stand-requires
codes_stand-requires c =
    rw c.in-Some.ensures.some (code-kind (column_of c.args.codes.now).dtype c.nullability.result c.requires.codes.kind)

pub returns-in-Some : goal.returns-in-Some
returns-in-Some c =
    let t = c.args.truths.now in
    IfOk-weaker c.codes_stand.result _ _
    (λ a e.
    e
    ∙ rw (c.in-Some.ensures.some, c.nullability.ensures, c.validity.ensures.value)
    (told-column Eq c.args.place t.values t.validity (column_of c.args.codes.now) c.requires.present (λ i l. only-there i c.args.place t.values c.requires.one.0 c.requires.one.1) c.requires.codes))
    c.codes_stand.ensures
