use Rattle.std.proofs.Common.{◌≡◌, ◌+◌, ◌-◌, ◌≤◌, ◌++◌, length, take, vec_len, vec_capacity}
use Rattle.vortex_io.specs.Source.{submissions}
use Rattle.vortex_io.proofs.held.add_submissions.Given as goal

abbrev pub invariant-loop-request : goal.invariant-loop-request
invariant-loop-request l = record {
  added : l.journal.items ≡ l.initial.journal.items ++ submissions l.owner (take l.request-index l.batch);
  room : vec_len l.journal + (length l.batch - l.request-index) ≤ vec_capacity l.journal;
}
