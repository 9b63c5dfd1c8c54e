-- Which rows of a list a list of places takes.
use Rattle.std.specs.Prelude.{ℕ, ◌<◌, ◌≡◌, Bool, true, false, cond, List, EachIndex, slice_index, slice_index_or}
use Rattle.std.specs.Simd.Lanes.{zip2}

-- each place whose bit is set is below n
abbrev pub SetPlacesBelow : ℕ → List ℕ → List Bool → Type 0
SetPlacesBelow n places set = EachIndex places (λ k. slice_index_or set k false ≡ true → slice_index places k < n)

-- the item at each place whose bit is set, and the default d for any other
abbrev pub taken_or : {X : Type 0} → X → List X → List ℕ → List Bool → List X
taken_or d items places set = zip2 (λ place bit. cond bit (slice_index_or items place d) d) places set
