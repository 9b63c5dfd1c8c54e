use Rattle.std.proofs.Common.{◌∙◌, Bool, ap, length}
use Rattle.std.specs.Prelude.{IsTrue}
use Rattle.vortex_array_types.specs.declared.scalar.Value.{Value}
use Rattle.vortex_array.specs.ColumnOf.{bool_column, column_of}
use Rattle.vortex_table_chunks.proofs.Asked.{held-shown}
use Rattle.vortex_table_chunks.proofs.leaves.asked_of.Goals as goal

pub new-requires : goal.new-requires
new-requires g c = rw c.in_ok-bits.ensures.long c.in_ok-validity.ensures.long

pub returns-clause-rows : goal.returns-clause-rows
returns-clause-rows g c =
    let truth : Value → Bool = g.Q.Predicate.truth c.args.q.now in
    ap bool_column c.new.ensures
    ∙ held-shown truth (column_of c.args.array.now) c.in_ok-bits.bits c.in_ok-validity.validity c.in_ok-bits.ensures.bits c.in_ok-validity.ensures.kind c.in_ok-validity.ensures.present
