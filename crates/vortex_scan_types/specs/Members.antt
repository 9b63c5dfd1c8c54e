-- Which places a selection and a range hold.
use Rattle.std.specs.Prelude.{ℕ, ◌-◌, ◌==◌, nat_le, nat_lt, length, count_by, map, List, Bool, true, not, ◌&&◌, Option, Some, None}
use Rattle.std.specs.List.{list_any, range_with_len}
use Rattle.std.specs.declared.ops.Range.{Range}
use Rattle.vortex_scan_types.specs.declared.selection.Selection.{Selection}
use Rattle.vortex_scan_types.specs.declared.selection.Selection.TheVariants.{All, IncludeByIndex, ExcludeByIndex}

-- the place is in the list
abbrev pub is_listed : List ℕ → ℕ → Bool
is_listed listed place = list_any (λ x. x == place) listed

-- every place, the listed places, or all others
abbrev pub in_selection : Selection → ℕ → Bool
in_selection All place = true
in_selection (IncludeByIndex listed) place = is_listed listed place
in_selection (ExcludeByIndex listed) place = not (is_listed listed place)

-- from the start on, and below the end
abbrev pub in_range : Range ℕ → ℕ → Bool
in_range range place = nat_le range.start place && nat_lt place range.end

-- an absent range holds every place
abbrev pub in_some_range : Option (Range ℕ) → ℕ → Bool
in_some_range None place = true
in_some_range (Some range) place = in_range range place

-- the places of a range, in order; none of one that is empty or reversed
abbrev pub places_of : Range ℕ → List ℕ
places_of range = range_with_len range.start (range.end - range.start)

-- how many places of a range a selection holds
abbrev pub count_in_range : Selection → Range ℕ → ℕ
count_in_range selection range = count_by (λ place. in_selection selection place) (places_of range)

-- of the places of a range, in order, which ones a selection holds
abbrev pub bits_in_range : Selection → Range ℕ → List Bool
bits_in_range selection range = map (λ place. in_selection selection place) (places_of range)

-- how many of so many rows a selection chooses by its length: listed places past the end count as well
abbrev pub count_of_total : Selection → ℕ → ℕ
count_of_total All total = total
count_of_total (IncludeByIndex listed) total = length listed
count_of_total (ExcludeByIndex listed) total = total - length listed
