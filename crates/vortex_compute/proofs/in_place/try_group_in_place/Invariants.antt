use Rattle.std.proofs.Common.{unwrap_or}
use Rattle.vortex_compute.specs.Groups.{TriedInPlace}
use Rattle.vortex_compute.proofs.in_place.try_group_in_place.Given as goal

abbrev pub invariant-loop-bit : goal.invariant-loop-bit
invariant-loop-bit g l = record {
  lanes : TriedInPlace (λ f x r h. goal.F-step g f x r h) l.fn.f (λ answer. g.S.IndexedSink.reads_back (unwrap_or answer g.S.Write.LaneDefault.its_default)) l.base l.bit (g.S.IndexedSource.lanes l.fn.values) (g.S.IndexedSource.lanes l.values) l.f l.failed;
  kept : g.S.IndexedSink.same_target l.fn.values l.values;
}
