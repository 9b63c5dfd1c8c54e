-- The program, over its words and the bytes of its streams.
use Rattle.std.specs.Prelude.{◌≡◌, ◌⊎◌, ◌==◌, ℕ, List, [], ◌∷◌, length, map, take, flat_map, nat_le, true, Option, Some, None, is_some, option_and_then, Result, Ok, Err, MatchResult, codes, if◌then◌else◌, String, string_bytes}
use Rattle.std.specs.declared.alloc.Global.{Global}
use Rattle.std.specs.Str.{bytes_eq}
use Rattle.std.specs.Io.KnownBytes.{Appends}
use Rattle.vortex_buffer.specs.Counts.{Faulted}
use Rattle.vortex_streams.specs.Known.{AppendsFront}
use Rattle.vortex_array_types.specs.Cells.{Row}
use Rattle.vortex_scan_types.specs.declared.request.ScanRequest.{ScanRequest}
use Rattle.vortex_table_types.specs.Answers.{Answers, Asked, Given, asked, within}
use Rattle.vortex_table_types.specs.Chosen.{Placed, chosen}
use Rattle.vortex_table_types.specs.Table.{decoded}
use Rattle.vortex_table_types.specs.Turn.{batch_rows}
use Rattle.vortex_scan_types.specs.Valid.{first_unknown}
use Rattle.vortex_query.specs.Requested.{requested}
use Rattle.vortex_query.specs.Spelled.{SpelledTable, spelled}
use Rattle.vortex_query.specs.Text.{text}

-- the text of a request in the words `scan REQUEST`
abbrev pub request_word : List (String Global) → Option (List ℕ)
request_word [] = None
request_word (command ∷ []) = None
request_word (command ∷ request ∷ []) = if bytes_eq (string_bytes command) (codes "scan") then Some (string_bytes request) else None
request_word (command ∷ request ∷ next ∷ rest) = None

-- the request of the words
abbrev pub asked_for : List (String Global) → Option ScanRequest
asked_for words = option_and_then requested (request_word words)

-- the table of the input's bytes, of which there are at most 67,108,864
abbrev pub table_in : List ℕ → Option SpelledTable
table_in bytes = if nat_le (length bytes) 67108864 then spelled bytes else None

-- a request for rows of a table
pub record Query : Type 0 where
  pub request : ScanRequest
  pub table : SpelledTable

-- a request and a table, or the status 4 of a request that names another column
abbrev pub for_table : ScanRequest → Option SpelledTable → Result Query ℕ
for_table request None = Err 8
for_table request (Some table) = if is_some (first_unknown table.columns request) then Err 4 else Ok (record { request = request; table = table })

-- a request and the table of these bytes, or the status 8 of what is not built
abbrev pub for_request : Option ScanRequest → List ℕ → Result Query ℕ
for_request None bytes = Err 8
for_request (Some request) bytes = for_table request (table_in bytes)

-- what the words ask of the input's bytes, or the status that refuses both
abbrev pub outcome : List (String Global) → List ℕ → Result Query ℕ
outcome words bytes = for_request (asked_for words) bytes

-- the status is one of these
abbrev pub IsOneOf : List ℕ → ℕ → Type 0
IsOneOf [] status = ⊥
IsOneOf (s ∷ statuses) status = (status ≡ s) ⊎ IsOneOf statuses status

-- the status that an outcome calls for: 0, or the one that refuses; 1 for want of memory, 6 and 7 for streams that fail
abbrev pub Ends : Result Query ℕ → ℕ → Type 0
Ends outcome status = MatchResult outcome (λ _. IsOneOf (0 ∷ 1 ∷ 6 ∷ 7 ∷ []) status) (λ refusal. IsOneOf (refusal ∷ 1 ∷ 6 ∷ []) status)

-- the rows that a request chooses, by partition and then row
abbrev pub chosen_rows : Query → List Placed
chosen_rows query = chosen query.request (decoded query.table.columns query.table.partitions query.table.contents)

-- the first of them, up to the limit
abbrev pub first_rows : Query → List Row
first_rows query = map (λ x. x.values) (take (within query.request.limit (length (chosen_rows query))) (chosen_rows query))

-- the question that a request asks of a table
abbrev pub question_of : Query → Asked
question_of query = asked query.table.columns query.table.partitions query.table.contents query.request

-- a text shows the rows of an answer; where order is asked for, it shows the first chosen rows
pub record Shows (query : Query) (shown : List ℕ) : Type 0 where
  pub batches : List Given
  pub answers : Answers (question_of query) batches
  pub rows : shown ≡ text query.table.columns query.request.projection (flat_map batch_rows batches)
  pub in_order : query.request.ordered ≡ true → shown ≡ text query.table.columns query.request.projection (first_rows query)

-- these bytes are asked something, and a text that shows it has this property
pub record Answered (asked : List ℕ → Result Query ℕ) (P : List ℕ → Type 0) (bytes : List ℕ) : Type 0 where
  pub query : Query
  pub asks : asked bytes ≡ Ok query
  pub shown : List ℕ
  pub shows : Shows query shown
  pub holds : P shown

-- the line of a status; 0 has none
abbrev pub line_of : ℕ → List ℕ
line_of status =
    if status == 1 then codes "vxscan: out of memory\n"
    else if status == 4 then codes "vxscan: request refused\n"
    else if status == 6 then codes "vxscan: read failed\n"
    else if status == 7 then codes "vxscan: write failed\n"
    else if status == 8 then codes "vxscan: not built\n"
    else []

-- told bytes grew by these, or by a front of them where the stream failed
abbrev pub Says : Option (List ℕ) → Option (List ℕ) → ℕ → ℕ → List ℕ → Type 0
Says old new before now line = Appends old new line ⊎ (AppendsFront old new line × Faulted before now)
