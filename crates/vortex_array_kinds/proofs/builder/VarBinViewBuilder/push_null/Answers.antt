use Rattle.std.proofs.Common.{[], ◌∙◌, false, sym}
use Rattle.vortex_array_kinds.proofs.StringRows.{column-more, on-ok}
use Rattle.vortex_array_kinds.proofs.builder.VarBinViewBuilder.push_null.Goals as goal

pub returns-in-Nullable-clause-ok : goal.returns-in-Nullable-clause-ok
returns-in-Nullable-clause-ok c =
    rw (← c.self.view_is)
    (on-ok c.push_row.result
    (λ strings valid.
    column-more c.self.inside.strings c.push_row.new.strings c.self.inside.validity c.push_row.new.validity [] false strings valid c.self.invariant (λ none. cc (sym none ∙ sym c.nullability.ensures ∙ c.in-Nullable.is)))
    c.push_row.ensures.strings c.push_row.ensures.validity)
