use Rattle.std.proofs.Common.{◌≡◌, ◌-◌, ◌==◌, true, false, get_or, arith}
use Rattle.std.proofs.lemmas.Bool.Decides.{nat_tests}
use Rattle.vortex_query_fields.proofs.Places.{place-found, place-kept, place-none}
use Rattle.vortex_query_fields.proofs.columns.last_colon.Goals as goal

pub returns-then-cell-left-eq58-clause-place : goal.returns-then-cell-left-eq58-clause-place
returns-then-cell-left-eq58-clause-place c =
    let is : (get_or c.args.cell.now (c.loop-left.left - 1) 0 == 58) ≡ true = grind (arith, nat_tests, c.if-cell-left-eq58.true) in
    place-found 58 c.args.cell.now c.loop-left.left (omega (arith, c.loop-left-test.true)) c.loop-left.invariant.0 c.loop-left.invariant.1 is

pub loop-left-preserved : goal.loop-left-preserved
loop-left-preserved c =
    let other : (get_or c.args.cell.now (c.loop-left.left - 1) 0 == 58) ≡ false = grind (arith, nat_tests, c.if-cell-left-eq58.false) in
    let fits = c.loop-left.invariant.0 in
    (omega (arith, fits), place-kept 58 c.args.cell.now c.loop-left.left (omega (arith, c.loop-left-test.true)) fits c.loop-left.invariant.1 other)

pub returns-clause-place : goal.returns-clause-place
returns-clause-place c = place-none 58 c.args.cell.now c.loop-left.left (omega (arith, c.loop-left-test.false)) c.loop-left.invariant.1
