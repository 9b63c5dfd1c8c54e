-- What a scan of one column asks of a source, and in which order.
use Rattle.std.specs.Prelude.{ℕ, nat_lt, List, ◌++◌, map, filter, zip}
use Rattle.std.specs.List.{enumerate_from}
use Rattle.vortex_io.specs.Memory.{MemoryState}
use Rattle.vortex_io.specs.Source.{fetches, submissions}
use Rattle.vortex_io.specs.declared.ids.IoOwnerId.{IoOwnerId}
use Rattle.vortex_io.specs.declared.request.Fetch.{Fetch}
use Rattle.vortex_io.specs.declared.request.IoIntent.TheVariants as intent
use Rattle.vortex_io.specs.declared.request.IoRequest.{IoRequest}
use Rattle.vortex_io.specs.declared.request.IoTarget.TheVariants as target
use Rattle.vortex_io.specs.declared.request.JournalEntry.{JournalEntry}
use Rattle.vortex_io.specs.declared.request.JournalEntry.TheVariants.{Waited}
use Rattle.vortex_table.specs.declared.chunk.Chunk.{Chunk}
use Rattle.vortex_table_types.specs.declared.describe.PartitionDesc.{PartitionDesc}
use Rattle.vortex_table_types.specs.declared.describe.SplitDesc.{SplitDesc}

-- the request for the one chunk of a split
abbrev pub split_request : ℕ → IoRequest
split_request split = record { intent = intent.Fetch; request = record { 0 = split }; target = target.Chunk split 0 }

-- a request for each split that has rows, the first split having this number
abbrev pub split_requests : ℕ → List SplitDesc → List IoRequest
split_requests first splits = map (λ x. split_request x.0) (filter (λ x. nat_lt 0 x.1.rows) (enumerate_from first splits))

-- one wait for each request
abbrev pub waits_for : List IoRequest → List JournalEntry
waits_for requests = map (λ _. Waited) requests

-- the owner of all requests of the one partition
abbrev pub first_owner : IoOwnerId
first_owner = record { 0 = 0 }

-- what is outstanding once the chunks of these splits were asked for
abbrev pub asked_for : List SplitDesc → List Fetch
asked_for splits = fetches first_owner (split_requests 0 splits)

-- what a scan adds to a journal: a request for the chunk of each split that has rows, and then a wait for each
abbrev pub fetched : List SplitDesc → List JournalEntry
fetched splits = submissions first_owner (split_requests 0 splits) ++ waits_for (split_requests 0 splits)

-- the journals of sources in memory once their partitions were scanned
abbrev pub journals_after : List PartitionDesc → List (MemoryState Chunk) → List (List JournalEntry)
journals_after partitions sources = map (λ x. x.1.journal ++ fetched x.0.splits) (zip partitions sources)
