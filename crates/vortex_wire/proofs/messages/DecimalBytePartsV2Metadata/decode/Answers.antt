use Rattle.std.proofs.Common.{[], ◌∷◌, ◌≡◌, ◌∙◌, Err, ap}
use Rattle.vortex_wire.proofs.Decoded.{no_first, no_second, stored, v2_found, v2_some}
use Rattle.vortex_wire.proofs.messages.DecimalBytePartsV2Metadata.decode.Goals as goal
use Rattle.vortex_wire.specs.Messages.{Repeated, Signed}
use Rattle.vortex_wire.specs.declared.messages.MetadataError.TheVariants.{BadMetadata}

pub returns-in_default-clause-bad : goal.returns-in_default-clause-bad
returns-in_default-clause-bad c =
    λ _. no_first (record { number = 1; kind = Signed }) (record { number = 2; kind = Repeated } ∷ []) c.args.bytes.now c.in_default.ensures.bad

pub returns-in_default-last_number-clause-bad : goal.returns-in_default-last_number-clause-bad
returns-in_default-last_number-clause-bad c =
    λ _. no_second (record { number = 1; kind = Signed }) (record { number = 2; kind = Repeated }) [] c.args.bytes.now c.in_default-last_number.ensures.bad

pub returns-in-Ok-integers-clause-found : goal.returns-in-Ok-integers-clause-found
returns-in-Ok-integers-clause-found c =
    let read = c.in-Ok-integers.ensures.found in
    v2_found c.args.bytes.now c.in-Ok.msp_ptype _ _ (stored _ _ c.signed_or_zero.ensures) c.in-Ok.ensures.found (read.0, read.1, c.from_vec.ensures ∙ read.2)

pub returns-in-Err-clause-bad : goal.returns-in-Err-clause-bad
returns-in-Err-clause-bad c =
    λ is.
    let same : c.in-Err.error ≡ BadMetadata = cc in
    no_second (record { number = 1; kind = Signed }) (record { number = 2; kind = Repeated }) [] c.args.bytes.now (c.in-Err.ensures.bad (ap Err same))

pub returns-in-Err-clause-memory : goal.returns-in-Err-clause-memory
returns-in-Err-clause-memory c =
    let first = c.in-Ok.ensures.found in
    let second = c.in-Ok-last_number.ensures.found in
    λ _. v2_some c.args.bytes.now first.0 second.0 first.1 second.1
