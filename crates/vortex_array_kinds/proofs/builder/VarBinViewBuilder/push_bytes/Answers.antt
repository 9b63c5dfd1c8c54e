use Rattle.std.proofs.Common.{◌∙◌, ◌∷◌, ◌++◌, [], ap, refl, sym, true, Some}
use Rattle.vortex_array_kinds.specs.Kinds.{string_type, strings_of}
use Rattle.vortex_array_kinds.specs.Validities.{nullability_of, rows_under}
use Rattle.vortex_array_kinds.proofs.RowLemmas.{column_with}
use Rattle.vortex_array_kinds.proofs.StringRows.{column-more, on-ok, value-of-kind}
use Rattle.vortex_array_kinds.proofs.builder.VarBinViewBuilder.push_bytes.Goals as goal

pub returns-clause-ok : goal.returns-clause-ok
returns-clause-ok c =
    let s = c.self.inside.strings in
    let v = c.self.inside.validity in
    let n = nullability_of v in
    rw (← c.self.view_is)
    (on-ok c.push_row.result
    (λ strings valid.
    column-more s c.push_row.new.strings v c.push_row.new.validity c.args.bytes.now true strings valid c.self.invariant (λ _. refl)
    ∙ ap (λ v. column_with (string_type s.kind n) (rows_under c.self.inside.validity (strings_of s) ++ Some v ∷ [])) (sym (value-of-kind s.kind n c.args.bytes.now)))
    c.push_row.ensures.strings c.push_row.ensures.validity)
