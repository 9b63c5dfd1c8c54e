use Rattle.std.proofs.Common.{◌∙◌, ap, sym}
use Rattle.std.proofs.lemmas.Result.{IfOk-weaker}
use Rattle.vortex_array_types.specs.Seen.{value_seen}
use Rattle.vortex_array_cast.proofs.FilledRows.{filled-none}
use Rattle.vortex_array_cast.proofs.fill.filled_values.Goals as goal

pub returns-then-has_none-clause-ok : goal.returns-then-has_none-clause-ok
returns-then-has_none-clause-ok g c =
    let x = c.args.values.now in
    rw (← g.V.Values.counted x)
    (IfOk-weaker c.copy.result _ _ (λ made e. ap g.V.Values.items e ∙ filled-none (value_seen c.args.fill) c.args.validity.now (g.V.Values.items x) (sym c.has_none.ensures ∙ c.if-has_none.true)) c.copy.ensures)
