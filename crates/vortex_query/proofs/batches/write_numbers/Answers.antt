use Rattle.std.proofs.Common.{◌≡◌, ◌∙◌, take, arith}
use Rattle.std.proofs.lemmas.List.{take_all}
use Rattle.vortex_query.proofs.Lines.{more_lines}
use Rattle.vortex_query.proofs.batches.write_numbers.Goals as goal

pub loop-number-preserved : goal.loop-number-preserved
loop-number-preserved c columns one written holds =
    let i = c.loop-number.number-index in
    let before = c.loop-number.invariant columns one written holds in
    let after = c.in_ok-write_row.ensures _ before in
    let field = c.as_bytes.ensures.value ∙ c.format.ensures.text in
    rw (← more_lines columns written c.args.numbers.now i one c.loop-number-test.true) (rw field at after)

pub returns : goal.returns
returns c columns one written holds =
    let i = c.loop-number.number-index in
    let all : take i c.args.numbers.now ≡ c.args.numbers.now = take_all i c.args.numbers.now (omega arith) in
    rw all at (c.loop-number.invariant columns one written holds)
