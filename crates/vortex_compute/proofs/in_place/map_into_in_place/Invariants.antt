use Rattle.vortex_compute.specs.Groups.{InPlace}
use Rattle.vortex_compute.proofs.in_place.map_into_in_place.Given as goal

abbrev pub invariant-loop-i : goal.invariant-loop-i
invariant-loop-i g l = record {
  lanes : InPlace (λ f x r h. goal.F-step g f x r h) l.fn.f g.S.IndexedSink.reads_back 0 l.i (g.S.IndexedSource.lanes l.fn.values) (g.S.IndexedSource.lanes l.values) l.f;
  kept : g.S.IndexedSink.same_target l.fn.values l.values;
}
