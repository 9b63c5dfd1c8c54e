use Rattle.std.proofs.Common.{◌≡◌, All, map, take}
use Rattle.vortex_io.specs.declared.order.Order.TheVariants.{First}
use Rattle.vortex_table.specs.Given.{contents_of}
use Rattle.vortex_query.specs.Spelled.{IsFresh, chunks_of}
use Rattle.vortex_query.proofs.table_text.cut.sources.Given as goal

abbrev pub invariant-loop-part : goal.invariant-loop-part
invariant-loop-part l = record {
  fresh : All (IsFresh First) l.sources.items;
  contents : contents_of l.sources.items ≡ map (chunks_of l.size) (map (λ part. part.now) (take l.part-index l.parts));
}
