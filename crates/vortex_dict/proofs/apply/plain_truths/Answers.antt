use Rattle.std.proofs.Common.{◌∙◌, Bool, ap}
use Rattle.vortex_array_types.specs.declared.scalar.Value.{Value}
use Rattle.vortex_array_kinds.specs.Kinds.{bool_column}
use Rattle.vortex_array_kinds.specs.declared.validity.Validity.{Validity}
use Rattle.vortex_dict.proofs.Held.{held-column}
use Rattle.vortex_dict.proofs.apply.plain_truths.Goals as goal

pub returns-clause-rows : goal.returns-clause-rows
returns-clause-rows g c =
    let truth : Value → Bool = g.Q.Predicate.truth c.args.q.now in
    ap bool_column c.new.ensures
    ∙ ap (λ (v : Validity). bool_column (record { values = c.in_ok-bits.bits; validity = v })) (c.in_ok-validity.ensures ∙ c.validity.ensures.value)
    ∙ held-column g.V.Values.type_of g.V.Values.items g.V.Values.alike c.args.values.now truth c.in_ok-bits.bits c.in_ok-bits.ensures.bits
