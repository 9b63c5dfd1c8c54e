use Rattle.std.proofs.Common.{◌<◌, ◌≤◌, arith, length, rules}
use Rattle.vortex_query.proofs.Rows.{all_read, none_spelled, one_more_read, past_limit}
use Rattle.vortex_query.proofs.table_text.numbered.numbers_left.Goals as goal

pub returns-in_err-number-clause-not_built : goal.returns-in_err-number-clause-not_built
returns-in_err-number-clause-not_built c refused = λ rows left.
    let going = c.loop-index.invariant.going rows left in
    none_spelled rows going.rest c.loop-index.numbers.items going.spells (c.in_err-number.ensures.not_built (search rules) going.rest going.left)

pub returns-in-None-clause-ok : goal.returns-in-None-clause-ok
returns-in-None-clause-ok c = λ rows left.
    let going = c.loop-index.invariant.going rows left in
    let few : length c.loop-index.numbers.items ≤ 65536 = omega (arith, c.loop-index.invariant.counted, c.loop-index-test.true) in
    let none = rw c.in-None.is at (c.in_ok-number.ensures.ok going.rest going.left) in
    all_read rows going.rest c.loop-index.numbers.items going.spells none few

pub loop-index-preserved : goal.loop-index-preserved
loop-index-preserved c = record {
  going = λ rows left.
      let going = c.loop-index.invariant.going rows left in
      let next = rw c.in-Some.is at (c.in_ok-number.ensures.ok going.rest going.left) in
      record {
        rest = next.rest;
        left = next.left;
        spells = rw c.in_ok-push-in-Some.ensures.items (one_more_read rows going.rest next.rest c.loop-index.numbers.items c.in-Some.number going.spells next.spells);
      };
  counted = search rules;
}

pub returns-clause-not_built : goal.returns-clause-not_built
returns-clause-not_built c _ = λ rows left.
    let going = c.loop-index.invariant.going rows left in
    let many : 65536 < length c.loop-index.numbers.items = omega (arith, c.loop-index.invariant.counted, c.loop-index-test.false) in
    past_limit rows going.rest c.loop-index.numbers.items going.spells many
