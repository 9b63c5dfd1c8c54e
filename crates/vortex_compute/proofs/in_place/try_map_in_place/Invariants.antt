use Rattle.std.proofs.Common.{◌*◌, unwrap_or}
use Rattle.vortex_compute.specs.Answers.{all_valid}
use Rattle.vortex_compute.specs.Groups.{TriedSoFar}
use Rattle.vortex_compute.proofs.in_place.try_map_in_place.Given as goal

abbrev pub invariant-loop-k : goal.invariant-loop-k
invariant-loop-k g l = record {
  lanes : TriedSoFar (λ f x r h. goal.F-step g f x r h) l.fn.f (λ answer. g.S.IndexedSink.reads_back (unwrap_or answer g.S.Write.LaneDefault.its_default)) (64 * l.k) (all_valid (g.S.IndexedSource.lanes l.fn.values)) (g.S.IndexedSource.lanes l.fn.values) (g.S.IndexedSource.lanes l.values) l.f;
  kept : g.S.IndexedSink.same_target l.fn.values l.values;
}
