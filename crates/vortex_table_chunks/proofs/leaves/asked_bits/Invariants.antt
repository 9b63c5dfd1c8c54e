use Rattle.std.proofs.Common.{◌≡◌, ◌≤◌, ◌+◌, map, take}
use Rattle.vortex_array.specs.ColumnOf.{column_of}
use Rattle.vortex_dict.proofs.Held.{held}
use Rattle.vortex_table_chunks.proofs.leaves.asked_bits.Given as goal

abbrev pub invariant-loop-i : goal.invariant-loop-i
invariant-loop-i g l = record {
  told : l.bits ≡ map (held (g.Q.Predicate.truth l.fn.q)) (take l.i (column_of l.array).rows);
  truths : g.Q.Predicate.truth l.q ≡ g.Q.Predicate.truth l.fn.q;
  count : g.Q.Predicate.asked l.q ≤ g.Q.Predicate.asked l.fn.q + l.i;
}
