use Rattle.std.proofs.Common.{subst}
use Rattle.vortex_array_kinds.specs.Validities.{valid_bits}
use Rattle.vortex_array_kinds.proofs.RowLemmas.{valid-rows}
use Rattle.vortex_array_order.specs.Nulls.{StandSo}
use Rattle.vortex_array_order.proofs.compared.Rows.nulls.Goals as goal

pub returns : goal.returns
returns g c =
    let v = c.self.inside.validity.now in
    rw (← c.self.view_is)
    (subst (λ valid. StandSo valid c.nulls_of.result) (valid-rows v (g.C.Compared.items c.self.inside.values.now) c.self.invariant)
    (subst (λ n. StandSo (valid_bits v n) c.nulls_of.result) c.count.ensures c.nulls_of.ensures))
