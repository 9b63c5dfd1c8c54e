use Rattle.std.proofs.Common.{◌≤◌, ◌^◌, ◌<◌, ◌⊎◌, arith, drop, inl, inr}
use Rattle.std.proofs.lemmas.List.Folds.{drop_split}
use Rattle.std.specs.List.{slice_range}
use Rattle.vortex_wire.proofs.Fields.{bad_key, field_found, lies_further, no_payload}
use Rattle.vortex_wire.proofs.field.next_field.Goals as goal
use Rattle.vortex_wire.proofs.field.next_field.Goals.{then-key-lt8-via-then-key-lt8, then-key-lt8-via-else-key-lt8+then-key}
use Rattle.vortex_wire.specs.Grammar.{payload_of}

pub returns-then-key-lt8-clause-bad : goal.returns-then-key-lt8-clause-bad
returns-then-key-lt8-clause-bad c =
    let bytes = c.args.bytes.now in
    let found = c.in-Ok.ensures.found in
    let bad : (c.in-Ok.key < 8) ⊎ (2 ^ 32 ≤ c.in-Ok.key) =
    elim c.then-key-lt8.branch [ then-key-lt8-via-then-key-lt8 w ↦ inl w.if-key-lt8.true | then-key-lt8-via-else-key-lt8+then-key w ↦ inr w.if-key.true ] in
    bad_key (drop c.args.at bytes) (slice_range bytes c.args.at c.in-Ok.body) (drop c.in-Ok.body bytes) c.in-Ok.key
    (drop_split bytes c.args.at c.in-Ok.body (omega (arith, found.0))) found.2 bad

pub returns-in_default-payload_at-clause-bad : goal.returns-in_default-payload_at-clause-bad
returns-in_default-payload_at-clause-bad c =
    let bytes = c.args.bytes.now in
    let found = c.in-Ok.ensures.found in
    no_payload (drop c.args.at bytes) (slice_range bytes c.args.at c.in-Ok.body) (drop c.in-Ok.body bytes) c.in-Ok.key
    (drop_split bytes c.args.at c.in-Ok.body (omega (arith, found.0))) found.2 c.in_default-payload_at.ensures.bad

pub returns-clause-found : goal.returns-clause-found
returns-clause-found c =
    let bytes = c.args.bytes.now in
    let found = c.in-Ok.ensures.found in
    let inside = c.in-Ok-payload_at.ensures.inside in
    let read = c.in-Ok-payload_at.ensures.found in (
      omega (arith, found.0, inside.0),
      inside.1,
      field_found bytes c.args.at c.in-Ok.body c.in-Ok-payload_at.end c.in-Ok.key (payload_of bytes c.in-Ok-payload_at.payload) (omega (arith, found.0)) inside.0
          (omega (arith, c.if-key-lt8.false)) (omega (arith, c.if-key.false)) found.2 read.0 read.1,
      lies_further c.args.at c.in-Ok.body c.in-Ok-payload_at.end c.in-Ok-payload_at.payload (omega (arith, found.0)) inside.2,
    )
