use Rattle.std.proofs.Common.{IsTrue, map}
use Rattle.std.proofs.lemmas.List.Elements.{All-filter}
use Rattle.vortex_io.specs.Source.{has_target, is_of_others}
use Rattle.vortex_io.specs.Memory.{columns_of}
use Rattle.vortex_io.specs.declared.request.Fetch.{Fetch}
use Rattle.vortex_io.proofs.memory.MemorySourceIoSource.release.Goals as goal

pub invariant_of-self : goal.invariant_of-self
invariant_of-self g c = rw c.remove_fetches.ensures (All-filter (is_of_others c.args.owner) (λ (fetch : Fetch). IsTrue (has_target (map columns_of c.self.inside.chunks.items) fetch.target)) c.self.inside.outstanding.items c.self.invariant)
