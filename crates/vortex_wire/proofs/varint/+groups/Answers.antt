use Rattle.std.proofs.Common.{◌≤◌, arith, get_or}
use Rattle.vortex_wire.proofs.Slices.{slice_to_end}
use Rattle.vortex_wire.proofs.Varints.{none_behind, past_behind}
use Rattle.vortex_wire.proofs.varint.+groups.Goals as goal

pub returns-in_default-groups-clause-none : goal.returns-in_default-groups-clause-none
returns-in_default-groups-clause-none t c =
    let first : 128 ≤ get_or c.args.bytes.now 0 0 = omega (arith, c.if-byte-lt128.false) in
    none_behind c.args.bytes.now _ c.args.room (slice_to_end c.args.bytes.now 1) first c.in_default-groups.ensures.none

pub returns-then-high-clause-none : goal.returns-then-high-clause-none
returns-then-high-clause-none t c =
    let first : 128 ≤ get_or c.args.bytes.now 0 0 = omega (arith, c.if-byte-lt128.false) in
    λ number front rest e size fits g.
    past_behind c.args.bytes.now _ c.in-Some.count c.in-Some.high (slice_to_end c.args.bytes.now 1) first c.in-Some.ensures.found.3 c.if-high.true number front rest e fits g
