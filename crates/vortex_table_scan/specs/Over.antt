-- The sources of a table in a call: what each is left as, and which calls are over honest sources.
use Rattle.std.specs.Prelude.{◌≡◌, ℕ, List, map, Some, slice_get, true}
use Rattle.std.specs.List.{AllZip}
use Rattle.vortex_buffer.specs.Counts.{Faulted}
use Rattle.vortex_io.specs.Source.{Content, IsHonest}
use Rattle.vortex_io.specs.declared.source.IoSource.{Ghosts}
use Rattle.vortex_scan.specs.Driving.{Returns}
use Rattle.vortex_scan.specs.Sources.{Clears}
use Rattle.vortex_table_chunks.specs.ChunkOf.{content_of}
use Rattle.vortex_table_chunks.specs.declared.chunk.Chunk.{Chunk}
use Rattle.vortex_table_types.specs.Answers.{Asked, asked}
use Rattle.vortex_table_types.specs.Table.{FitsPartition}
use Rattle.vortex_table_types.specs.declared.describe.PartitionDesc.{PartitionDesc}
use Rattle.vortex_scan_types.specs.declared.request.ScanRequest.{ScanRequest}
use Rattle.vortex_table_scan.specs.State.{TableState}

-- each source was cleared, in its place
abbrev pub AreCleared : {S C : Type 0} → Ghosts S C → List S → List S → Type 0
AreCleared {S} source old new = AllZip (Clears source) old new

-- each source is in its place: nothing is outstanding there, its content and whether it is sure are as they were, its counts are not lower, and its told
-- journal is only extended
abbrev pub AreBack : {S C : Type 0} → Ghosts S C → List S → List S → Type 0
AreBack {S} source old new = AllZip (Returns source) old new

-- the source of partition p as a call begins and as it ends
pub record IsSource {S : Type 0} (p : ℕ) (old new : List S) (before after : S) : Type 0 where
  pub was : slice_get old p ≡ Some before
  pub now : slice_get new p ≡ Some after

-- a call is over honest sources: each tells these chunks, which have the splits, rows and types that are described, and is honest in the call
pub record AreHonest {S : Type 0} (source : Ghosts S Chunk) (partitions : List PartitionDesc) (told : List (Content Chunk)) (old new : List S) : Type 0 where
  pub tells : map source.content old ≡ map (λ (content : Content Chunk). Some content) told
  pub fit : AllZip (λ partition (content : Content Chunk). FitsPartition partition (content_of content)) partitions told
  pub honest : AllZip (λ before after. IsHonest (source.lies before) (source.lies after)) old new

-- no source fails in the call
abbrev pub NoneFails : {S : Type 0} → Ghosts S Chunk → List S → List S → Type 0
NoneFails source old new = AllZip (λ before after. ¬ Faulted (source.faults before) (source.faults after)) old new

-- the question that a request asks of a table whose sources tell these chunks
abbrev pub question : {S : Type 0} → TableState S → List (Content Chunk) → ScanRequest → Asked
question table told request = asked table.columns table.partitions (map content_of told) request

-- a source that is sure and tells a content that fits its partition does not fail
abbrev pub SurelyStand : {S : Type 0} → Ghosts S Chunk → List PartitionDesc → List S → List S → Type 0
SurelyStand {S} source partitions old new = (p : ℕ) (partition : PartitionDesc) (before after : S) (content : Content Chunk) → slice_get partitions p ≡ Some partition → IsSource p old new before after
    → source.sure before ≡ true → source.content before ≡ Some content → FitsPartition partition (content_of content) → source.faults after ≡ source.faults before
