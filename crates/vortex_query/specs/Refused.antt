-- What each part of the program is refused for.
use Rattle.std.specs.Prelude.{◌≡◌, ◌⊎◌, ℕ, List, Option, Some, None, IfSome, IsSome, Result, Err, String, ⊤}
use Rattle.std.specs.declared.alloc.Global.{Global}
use Rattle.vortex_buffer.specs.Counts.{Faulted}
use Rattle.vortex_array_types.specs.declared.column.ColumnDesc.{ColumnDesc}
use Rattle.vortex_scan_types.specs.declared.request.ScanRequest.{ScanRequest}
use Rattle.vortex_scan_types.specs.Valid.{first_unknown}
use Rattle.vortex_query.specs.Requested.{requested}
use Rattle.vortex_query.specs.Spelled.{SpelledTable, spelled}
use Rattle.vortex_query.specs.Query.{Query, asked_for, outcome, table_in}
use Rattle.vortex_query.specs.declared.program.refusal.Refusal.{Refusal}
use Rattle.vortex_query.specs.declared.program.refusal.Refusal.TheVariants.{OutOfMemory, NotBuilt, UnknownColumn, ReadFailed, WriteFailed}

-- the status of a refusal
abbrev pub status_of : Refusal → ℕ
status_of OutOfMemory = 1
status_of UnknownColumn = 4
status_of ReadFailed = 6
status_of WriteFailed = 7
status_of NotBuilt = 8

-- why no request comes of the words
abbrev pub RefusesWords : List (String Global) → Refusal → Type 0
RefusesWords words OutOfMemory = ⊤
RefusesWords words NotBuilt = asked_for words ≡ None
RefusesWords words _ = ⊥

-- why no table comes of the input
abbrev pub RefusesInput : Option (List ℕ) → ℕ → ℕ → Refusal → Type 0
RefusesInput told before now OutOfMemory = ⊤
RefusesInput told before now NotBuilt = IfSome told (λ bytes. table_in bytes ≡ None)
RefusesInput told before now ReadFailed = Faulted before now
RefusesInput told before now _ = ⊥

-- why what is asked of the input is refused
abbrev pub RefusesAsked : (List ℕ → Result Query ℕ) → Option (List ℕ) → Refusal → Type 0
RefusesAsked asked told OutOfMemory = ⊤
RefusesAsked asked told NotBuilt = IfSome told (λ bytes. asked bytes ≡ Err 8)
RefusesAsked asked told UnknownColumn = IfSome told (λ bytes. asked bytes ≡ Err 4)
RefusesAsked asked told ReadFailed = ⊤
RefusesAsked asked told WriteFailed = ⊤

-- why words and input are refused: no request comes of the words, or what they ask is refused
abbrev pub RefusesScan : List (String Global) → Option (List ℕ) → Refusal → Type 0
RefusesScan words told refusal = RefusesWords words refusal ⊎ (IsSome (asked_for words) × RefusesAsked (outcome words) told refusal)

-- why a request is refused that a table of its form was asked
abbrev pub RefusesRequest : List ColumnDesc → ScanRequest → Refusal → Type 0
RefusesRequest columns request OutOfMemory = ⊤
RefusesRequest columns request UnknownColumn = IsSome (first_unknown columns request)
RefusesRequest columns request _ = ⊥

-- a request that some text spells
abbrev pub IsSpelledRequest : ScanRequest → Type 0
IsSpelledRequest request = (text : List ℕ) × (requested text ≡ Some request)

-- a table that some text spells
abbrev pub IsSpelledTable : SpelledTable → Type 0
IsSpelledTable table = (bytes : List ℕ) × (spelled bytes ≡ Some table)
