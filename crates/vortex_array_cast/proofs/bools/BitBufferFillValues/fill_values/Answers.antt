use Rattle.std.proofs.Common.{◌∙◌, ap, length, map}
use Rattle.vortex_array_types.specs.declared.scalar.Value.TheVariants as value
use Rattle.vortex_array_kinds.specs.Validities.{valid_bits}
use Rattle.vortex_array_cast.proofs.FilledRows.{map-filled}
use Rattle.vortex_array_cast.proofs.bools.BitBufferFillValues.fill_values.Goals as goal

pub returns-clause-ok : goal.returns-clause-ok
returns-clause-ok c =
    let bits = c.args.self.now in
    rw c.in-Bool.is (ap (map (λ b. value.Bool b)) c.in_ok-filled-in-Bool.ensures ∙ map-filled (λ b. value.Bool b) c.in-Bool.bit bits (valid_bits c.args.validity.now (length bits)))
