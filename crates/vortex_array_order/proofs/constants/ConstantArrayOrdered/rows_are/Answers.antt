use Rattle.std.proofs.Common.{refl, arith}
use Rattle.std.proofs.lemmas.Bool.{ltb-true, lt-ltb}
use Rattle.vortex_array_order.proofs.ConstantRows.{constant-sorted, constant-strict, strict-short}
use Rattle.vortex_array_order.proofs.constants.ConstantArrayOrdered.rows_are.Goals as goal

pub returns-in-Sorted : goal.returns-in-Sorted
returns-in-Sorted c =
    let array = c.args.self.now in
    rw c.in-Sorted.is ((λ _. constant-sorted array.len array.scalar.value), (λ _. refl))

pub returns-in-StrictlySorted : goal.returns-in-StrictlySorted
returns-in-StrictlySorted c =
    let array = c.args.self.now in
    rw c.in-StrictlySorted.is
    ((λ t. constant-strict array.len array.scalar.value (omega (arith, ltb-true c.len-len.result 2 t, c.len-len.ensures.count))), (λ h. lt-ltb c.len-len.result 2 (omega (arith, strict-short array.len array.scalar.value h, c.len-len.ensures.count))))
