use Rattle.std.proofs.Common.{◌≡◌, ◌++◌, vec_capacity}
use Rattle.vortex_table_scan.proofs.AdmitsMore.{SoFar}
use Rattle.vortex_table_scan.proofs.roots.admit_all.Given as goal

-- of the sources so far, those of the admitted partitions are in the run, and the others in the list
abbrev pub invariant-sources : goal.invariant-sources
invariant-sources g l = record {
  whole : l.yielded ++ l.source-iterator.rest.items ≡ l.fn.sources.items;
  room : vec_capacity l.others ≡ vec_capacity l.initial.others;
  so : SoFar l.fn.columns l.fn.partitions l.fn.request l.initial.run l.yielded l.partition l.stopped l.run l.others.items;
}
