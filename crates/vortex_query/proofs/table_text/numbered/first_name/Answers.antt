use Rattle.std.proofs.Common.{sym}
use Rattle.csv.specs.Records.{fields_of}
use Rattle.vortex_query.proofs.Rows.{no_header, bad_header, good_header}
use Rattle.vortex_query.proofs.table_text.numbered.first_name.Goals as goal

pub returns-then-not-branch-clause-not_built : goal.returns-then-not-branch-clause-not_built
returns-then-not-branch-clause-not_built c _ = λ rows left. no_header rows (rw c.if-not-branch.true at (c.in_ok-next_row.ensures rows left))

pub returns-in_ok-from_str-in-Some-clause-ok : goal.returns-in_ok-from_str-in-Some-clause-ok
returns-in_ok-from_str-in-Some-clause-ok c = λ rows left.
    let given = rw c.if-not-branch.false at (c.in_ok-next_row.ensures rows left) in
    record {
      rest = given.0;
      left = given.2;
      spells = rw c.in_ok-from_str-in-Some.ensures (good_header rows given.0 (fields_of c.next_row.new.row) c.in-Some.name.now given.1 (sym c.in-Some.ensures));
    }

pub returns-in-None-clause-not_built : goal.returns-in-None-clause-not_built
returns-in-None-clause-not_built c _ = λ rows left.
    let given = rw c.if-not-branch.false at (c.in_ok-next_row.ensures rows left) in
    bad_header rows given.0 (fields_of c.next_row.new.row) given.1 (sym c.in-None.ensures)
