use Rattle.std.proofs.Common.{[], ◌∷◌}
use Rattle.vortex_wire.proofs.Decoded.{dict_found, no_first, no_second, no_third, stored}
use Rattle.vortex_wire.proofs.messages.DictMetadata.decode.Goals as goal
use Rattle.vortex_wire.specs.Messages.{Signed, Truth, Unsigned}

pub returns-in_default-clause-bad : goal.returns-in_default-clause-bad
returns-in_default-clause-bad c =
    no_first (record { number = 1; kind = Unsigned }) (record { number = 2; kind = Signed } ∷ record { number = 3; kind = Truth } ∷ []) c.args.bytes.now c.in_default.ensures.bad

pub returns-in_default-last_number-clause-bad : goal.returns-in_default-last_number-clause-bad
returns-in_default-last_number-clause-bad c =
    no_second (record { number = 1; kind = Unsigned }) (record { number = 2; kind = Signed }) (record { number = 3; kind = Truth } ∷ []) c.args.bytes.now
    c.in_default-last_number.ensures.bad

pub returns-in_default-last_number-2-clause-bad : goal.returns-in_default-last_number-2-clause-bad
returns-in_default-last_number-2-clause-bad c =
    no_third (record { number = 1; kind = Unsigned }) (record { number = 2; kind = Signed }) (record { number = 3; kind = Truth }) [] c.args.bytes.now
    c.in_default-last_number-2.ensures.bad

pub returns-clause-found : goal.returns-clause-found
returns-clause-found c =
    dict_found c.args.bytes.now c.in-Ok.values_len c.in-Ok-last_number.codes_ptype c.in-Ok-last_number-2.nullable _ _ _ c.whole.ensures
    (stored _ _ c.signed_or_zero.ensures) c.truth.ensures c.in-Ok.ensures.found c.in-Ok-last_number.ensures.found c.in-Ok-last_number-2.ensures.found
