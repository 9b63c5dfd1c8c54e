use Rattle.std.proofs.Common.{sym}
use Rattle.csv.specs.Records.{fields_of}
use Rattle.vortex_query.proofs.Rows.{good_row, bad_row}
use Rattle.vortex_query.proofs.table_text.numbered.next_number.Goals as goal

pub returns-then-not-branch-clause-ok : goal.returns-then-not-branch-clause-ok
returns-then-not-branch-clause-ok c = λ rows left. rw c.if-not-branch.true at (c.in_ok-next_row.ensures rows left)

pub returns-in-Some-clause-ok : goal.returns-in-Some-clause-ok
returns-in-Some-clause-ok c = λ rows left.
    let given = rw c.if-not-branch.false at (c.in_ok-next_row.ensures rows left) in
    record {
      rest = given.0;
      left = given.2;
      spells = good_row rows given.0 (fields_of c.next_row.new.row) c.in-Some.number given.1 (sym c.in-Some.ensures);
    }

pub returns-in-None-clause-not_built : goal.returns-in-None-clause-not_built
returns-in-None-clause-not_built c _ = λ rows left.
    let given = rw c.if-not-branch.false at (c.in_ok-next_row.ensures rows left) in
    bad_row rows given.0 (fields_of c.next_row.new.row) given.1 (sym c.in-None.ensures)
