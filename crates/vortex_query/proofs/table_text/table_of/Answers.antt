use Rattle.std.proofs.Common.{◌∙◌, ◌≡◌, map}
use Rattle.vortex_table.specs.Given.{contents_of}
use Rattle.vortex_io.specs.declared.order.Order.TheVariants.{First}
use Rattle.vortex_query.specs.Numbered.{column_seen}
use Rattle.vortex_query.specs.Spelled.{chunks_of, partition_of, pieces}
use Rattle.vortex_query.proofs.Cut.{cleared_contents, cleared_fresh, spelled_parts}
use Rattle.vortex_query.proofs.Described.{spelled-refused}
use Rattle.vortex_query.proofs.table_text.table_of.Goals as goal

pub returns-in-Ok-clause-ok : goal.returns-in-Ok-clause-ok
returns-in-Ok-clause-ok c =
    let t = c.in-Ok.ensures in
    let parts = c.in_ok-partitions.ensures in
    let column = column_seen c.in_ok-name.field-0 in
    let text = c.deref.ensures.value in
    spelled_parts c.args.bytes.now column c.in-Ok.table.columns c.in-Ok.table.partitions (contents_of c.in-Ok.table.sources) c.in_ok-name.ensures.ok
    (t.columns ∙ c.in_ok-columns.ensures)
    (t.partitions ∙ rw (c.requires, text) at parts.partitions)
    (cleared_contents c.in_ok-partitions.field-0.sources.items c.in-Ok.table.sources t.sources ∙ rw (c.requires, text) at parts.contents)

pub returns-in-Ok-clause-fresh : goal.returns-in-Ok-clause-fresh
returns-in-Ok-clause-fresh c = rw c.requires (cleared_fresh First c.in_ok-partitions.field-0.sources.items c.in-Ok.table.sources c.in-Ok.ensures.sources c.in_ok-partitions.ensures.fresh)

pub returns-in-Ok-clause-fits : goal.returns-in-Ok-clause-fits
returns-in-Ok-clause-fits c =
    let t = c.in-Ok.ensures in
    let parts = c.in_ok-partitions.ensures in
    rw (t.partitions, cleared_contents c.in_ok-partitions.field-0.sources.items c.in-Ok.table.sources t.sources, parts.partitions, parts.contents) parts.fits

pub memory_wanting-requires : goal.memory_wanting-requires
memory_wanting-requires c =
    let parts = c.in_ok-partitions.field-0 in
    let column = column_seen c.in_ok-name.field-0 in
    let text = c.deref.ensures.value in
    let partitions : parts.partitions.items ≡ map (partition_of 8192) (pieces 65536 column.numbers) = rw (c.requires, text) at c.in_ok-partitions.ensures.partitions in
    let contents : contents_of parts.sources.items ≡ map (chunks_of 8192) (pieces 65536 column.numbers) = rw (c.requires, text) at c.in_ok-partitions.ensures.contents in
    spelled-refused c.args.bytes.now column c.in_ok-columns.columns.items parts.partitions.items parts.sources.items c.in-Err.refused.error c.in_ok-name.ensures.ok c.in_ok-columns.ensures partitions contents c.in-Err.ensures.cause
