use Rattle.std.proofs.Common.{[], ◌∷◌}
use Rattle.vortex_wire.proofs.Decoded.{no_first, no_second, stored, v1_found}
use Rattle.vortex_wire.proofs.messages.DecimalBytePartsV1Metadata.decode.Goals as goal
use Rattle.vortex_wire.specs.Messages.{Signed, Unsigned}

pub returns-in_default-clause-bad : goal.returns-in_default-clause-bad
returns-in_default-clause-bad c =
    no_first (record { number = 1; kind = Signed }) (record { number = 2; kind = Unsigned } ∷ []) c.args.bytes.now c.in_default.ensures.bad

pub returns-in_default-last_number-clause-bad : goal.returns-in_default-last_number-clause-bad
returns-in_default-last_number-clause-bad c =
    no_second (record { number = 1; kind = Signed }) (record { number = 2; kind = Unsigned }) [] c.args.bytes.now c.in_default-last_number.ensures.bad

pub returns-clause-found : goal.returns-clause-found
returns-clause-found c =
    v1_found c.args.bytes.now c.in-Ok.zeroth_child_ptype c.in-Ok-last_number.lower_part_count _ _ (stored _ _ c.signed_or_zero.ensures) c.whole.ensures
    c.in-Ok.ensures.found c.in-Ok-last_number.ensures.found
