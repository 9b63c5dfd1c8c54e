use Rattle.vortex_table.specs.State.{Stands}
use Rattle.vortex_table.proofs.OnePartition.{first_held}
use Rattle.vortex_table_types.proofs.Zipped.{zipped-all, zipped-long}
use Rattle.vortex_table.proofs.table.Table+MemorySource+Chunk.scan_only.Goals as goal

pub scan_sources-requires-clause-held : goal.scan_sources-requires-clause-held
scan_sources-requires-clause-held c =
    let requires = rw (← c.self.view_is) at c.requires in
    rw c.as_slice.ensures.value (first_held c.self.inside.columns.items c.self.inside.partitions.items c.self.inside.sources.items requires.column c.self.invariant.described.fits requires.fits)

pub scan_sources-requires-clause-arrives : goal.scan_sources-requires-clause-arrives
scan_sources-requires-clause-arrives c = let requires = rw (← c.self.view_is) at c.requires in requires.arrives

pub invariant_of-self : goal.invariant_of-self
invariant_of-self c =
    let old = c.self.inside.sources.items in
    let new = c.scan_sources.new.sources.items in
    record {
      described = rw (← zipped-long Stands old new c.scan_sources.ensures.stands) c.self.invariant.described;
      idle = zipped-all Stands _ (λ x y r. r.idle) old new c.scan_sources.ensures.stands;
    }
