-- What an item has fetched and was not given.
use Rattle.std.specs.Prelude.{ℕ, Bool, ◌&&◌, List, map}
use Rattle.vortex_io.specs.Source.{is_named, is_of_kind}
use Rattle.vortex_io.specs.declared.request.Completion.{Completion}
use Rattle.vortex_io.specs.declared.request.Fetch.{Fetch}

-- the numbers of fetches
abbrev pub numbers : List Fetch → List ℕ
numbers fetches = map (λ (fetch : Fetch). fetch.request.0) fetches

-- whether a completion is of a fetch: its owner's and of its number, and of the kind of its target
abbrev pub is_answer : {C : Type 0} → Completion C → Fetch → Bool
is_answer completion fetch = is_named completion.owner completion.request fetch && is_of_kind fetch.target completion.result
