use Rattle.std.proofs.Common.{◌≡◌, arith, length}
use Rattle.std.proofs.lemmas.Bool.Decides.{nat_tests}
use Rattle.vortex_query_fields.proofs.Hexed.{going-more, going-odd, going-whole, going-wrong}
use Rattle.vortex_query_fields.proofs.hex.push_pairs.Goals as goal

pub returns-in-None-clause-none : goal.returns-in-None-clause-none
returns-in-None-clause-none c _ =
    going-wrong c.args.bytes.now.items c.loop-rest.bytes.items c.args.pairs.now c.loop-rest.rest.now c.loop-rest.invariant (omega (arith, c.loop-rest-test.true)) c.in-None.ensures

pub loop-rest-preserved : goal.loop-rest-preserved
loop-rest-preserved c =
    let more = going-more c.args.bytes.now.items c.loop-rest.bytes.items c.args.pairs.now c.loop-rest.rest.now c.in-Some.byte c.loop-rest.invariant (omega (arith, c.loop-rest-test.true)) c.in-Some.ensures in
    rw (c.in_ok-push-in-Some.ensures.items, c.behind_pair-rest.ensures) more

pub returns-clause-spelled : goal.returns-clause-spelled
returns-clause-spelled c whole =
    let none : length c.loop-rest.rest.now ≡ 0 = grind (arith, nat_tests, c.is_empty.ensures, whole) in
    going-whole c.args.bytes.now.items c.loop-rest.bytes.items c.args.pairs.now c.loop-rest.rest.now c.loop-rest.invariant none

pub returns-clause-none : goal.returns-clause-none
returns-clause-none c odd =
    let one : length c.loop-rest.rest.now ≡ 1 = grind (arith, nat_tests, c.is_empty.ensures, odd, c.loop-rest-test.false) in
    going-odd c.args.bytes.now.items c.loop-rest.bytes.items c.args.pairs.now c.loop-rest.rest.now c.loop-rest.invariant one
