-- Which rows of a split are selected, by the range and the selection.
use Rattle.std.proofs.Common.{◌≡◌, ◌∙◌, sym, ap, refl, ℕ, zero, suc, ◌+◌, ◌-◌, ◌<◌, ◌≤◌, List, [], ◌∷◌, Bool, true, false, cond, length, map, arith}
use Rattle.std.proofs.lemmas.List.{length-map}
use Rattle.std.specs.Prelude.{◌&&◌, ◌||◌, Option, None, Some, count_by, max, min, nat_le, nat_lt}
use Rattle.std.specs.List.{list_any, range_with_len}
use Rattle.std.specs.Simd.Lanes.{zip2}
use Rattle.std.specs.declared.ops.Range.{Range}
use Rattle.vortex_scan_types.proofs.Counted.{count_by-cons}
use Rattle.vortex_scan_types.specs.Members.{count_in_range, in_selection, in_some_range, places_of}
use Rattle.vortex_scan_types.specs.declared.request.ScanRequest.{ScanRequest}
use Rattle.vortex_scan_types.specs.declared.selection.Selection.{Selection}
use Rattle.vortex_table_types.specs.Chosen.{is_partition_chosen}
use Rattle.vortex_table_planner.specs.Live.{is_live}
use Rattle.vortex_table_planner.specs.Planners.{clipped, is_picked, picked_bits}

-- some element passes exactly where not none do
some_count : {X : Type 0} (p : X → Bool) (xs : List X) → nat_lt 0 (count_by p xs) ≡ list_any p xs
some_count p [] = refl
some_count {X} p (x ∷ xs) = by (p x) refl (some_count p xs)
  where
    more : (n : ℕ) → nat_lt 0 (1 + n) ≡ true
    more n = grind arith

    none : (n : ℕ) → 0 + n ≡ n
    none n = omega arith

    by : (b : Bool) → p x ≡ b → nat_lt 0 (count_by p xs) ≡ list_any p xs → nat_lt 0 (count_by p (x ∷ xs)) ≡ (p x || list_any p xs)
    by true e rest = ap (nat_lt 0) (count_by-cons p x xs ∙ ap (λ (b : Bool). cond b 1 0 + count_by p xs) e) ∙ more (count_by p xs) ∙ sym (ap (λ (b : Bool). b || list_any p xs) e)
    by false e rest = ap (nat_lt 0) (count_by-cons p x xs ∙ ap (λ (b : Bool). cond b 1 0 + count_by p xs) e ∙ none (count_by p xs)) ∙ rest ∙ sym (ap (λ (b : Bool). b || list_any p xs) e)

-- from one place on, and below another
abbrev within : ℕ → ℕ → ℕ → Bool
within low high place = nat_le low place && nat_lt place high

at_least : (low place : ℕ) → nat_le low place ≡ true → low ≤ place
at_least low place e = grind (arith, e)

below : (low place : ℕ) → nat_le low place ≡ false → place < low
below low place e = grind (arith, e)

inside : (place high : ℕ) → nat_lt place high ≡ true → place < high
inside place high e = grind (arith, e)

outside : (place high : ℕ) → nat_lt place high ≡ false → high ≤ place
outside place high e = grind (arith, e)

-- a test of the places that lie within too is one of all places, with that in it
clip_any : (q : ℕ → Bool) (low high first n : ℕ) → list_any q (range_with_len (max first low) (min (first + n) high - max first low)) ≡ list_any (λ place. within low high place && q place) (range_with_len first n)
clip_any q low high first zero = let none : min (first + 0) high - max first low ≡ 0 = omega arith in ap (λ (m : ℕ). list_any q (range_with_len (max first low) m)) none
clip_any q low high first (suc n) = by (list_any (λ place. within low high place && q place) (range_with_len (first + 1) n)) (nat_le low first) refl (nat_lt first high) refl (clip_any q low high (first + 1) n)
  where
    by : (later : Bool) (b : Bool) → nat_le low first ≡ b → (d : Bool) → nat_lt first high ≡ d → list_any q (range_with_len (max (first + 1) low) (min (first + 1 + n) high - max (first + 1) low)) ≡ later
        → list_any q (range_with_len (max first low) (min (first + suc n) high - max first low)) ≡ (within low high first && q first || later)
    by later true e true f rest =
        let l : low ≤ first = at_least low first e in
        let h : first < high = inside first high f in
        let start : max first low ≡ first = omega (arith, l) in
        let next : max (first + 1) low ≡ first + 1 = omega (arith, l) in
        let m : ℕ = min (first + 1 + n) high - max (first + 1) low in
        let long : min (first + suc n) high - max first low ≡ suc m = omega (arith, l, h) in
        ap (λ (k : ℕ). list_any q (range_with_len (max first low) k)) long ∙ ap (λ (s : ℕ). list_any q (range_with_len s (suc m))) start
        ∙ ap (λ (s : ℕ). q first || list_any q (range_with_len s m)) (sym next) ∙ ap (λ (b : Bool). q first || b) rest
        ∙ sym (ap (λ (b : Bool). (b && nat_lt first high) && q first || later) e ∙ ap (λ (b : Bool). b && q first || later) f)
    by later true e false f rest =
        let h : high ≤ first = outside first high f in
        let here : min (first + suc n) high - max first low ≡ 0 = omega (arith, h) in
        let after : min (first + 1 + n) high - max (first + 1) low ≡ 0 = omega (arith, h) in
        ap (λ (k : ℕ). list_any q (range_with_len (max first low) k)) here ∙ sym (ap (λ (k : ℕ). list_any q (range_with_len (max (first + 1) low) k)) after) ∙ rest
        ∙ sym (ap (λ (b : Bool). (b && nat_lt first high) && q first || later) e ∙ ap (λ (b : Bool). b && q first || later) f)
    by later false e d f rest =
        let l : first < low = below low first e in
        let start : max first low ≡ max (first + 1) low = omega (arith, l) in
        let long : min (first + suc n) high - max first low ≡ min (first + 1 + n) high - max (first + 1) low = omega (arith, l) in
        ap (λ (k : ℕ). list_any q (range_with_len (max first low) k)) long ∙ ap (λ (s : ℕ). list_any q (range_with_len s (min (first + 1 + n) high - max (first + 1) low))) start ∙ rest
        ∙ sym (ap (λ (b : Bool). (b && nat_lt first high) && q first || later) e)

-- some row of those in the range too is a member exactly where some row is selected
pub some_selected : (range : Option (Range ℕ)) (selection : Selection) (rows : Range ℕ) → nat_lt 0 (count_in_range selection (clipped range rows)) ≡ list_any (is_picked range selection) (places_of rows)
some_selected None selection rows = some_count (in_selection selection) (places_of rows)
some_selected (Some range) selection rows =
    let n : ℕ = rows.end - rows.start in
    let long : min rows.end range.end - max rows.start range.start ≡ min (rows.start + n) range.end - max rows.start range.start = omega arith in
    some_count (in_selection selection) (places_of (clipped (Some range) rows)) ∙ ap (λ (k : ℕ). list_any (in_selection selection) (range_with_len (max rows.start range.start) k)) long
    ∙ clip_any (in_selection selection) range.start range.end rows.start n

-- in a chosen partition the selected rows of a split are those in the range and the selection
pub chosen_live : (request : ScanRequest) (p : ℕ) (rows : Range ℕ) → is_partition_chosen request p ≡ true
    → list_any (is_picked request.row_range request.selection) (places_of rows) ≡ is_live request (record { file_ordinal = p; rows = rows })
chosen_live request p rows chosen = sym (ap (λ (b : Bool). list_any (λ row. b && in_some_range request.row_range row && in_selection request.selection row) (places_of rows)) chosen)

-- where the range has each of the places, the selection alone decides
all_inside : (range : Option (Range ℕ)) (q : ℕ → Bool) (first n : ℕ) → ((place : ℕ) → first ≤ place → place < first + n → in_some_range range place ≡ true)
    → map q (range_with_len first n) ≡ map (λ place. in_some_range range place && q place) (range_with_len first n)
all_inside range q first zero inside = refl
all_inside range q first (suc n) inside =
    let here : in_some_range range first ≡ true = inside first (omega arith) (omega arith) in
    ap (λ (rest : List Bool). q first ∷ rest) (all_inside range q (first + 1) n (λ place l h. inside place (omega (arith, l)) (omega (arith, h))))
    ∙ sym (ap (λ (b : Bool). (b && q first) ∷ map (λ place. in_some_range range place && q place) (range_with_len (first + 1) n)) here)

pub covered_bits : (range : Option (Range ℕ)) (selection : Selection) (rows : Range ℕ) → ((place : ℕ) → rows.start ≤ place → place < rows.end → in_some_range range place ≡ true)
    → map (in_selection selection) (places_of rows) ≡ picked_bits range selection rows
covered_bits range selection rows inside = all_inside range (in_selection selection) rows.start (rows.end - rows.start) (λ place l h. inside place l (omega (arith, l, h)))

-- and else both do
both_bits : (f g : ℕ → Bool) (places : List ℕ) → zip2 ◌&&◌ (map f places) (map g places) ≡ map (λ place. f place && g place) places
both_bits f g [] = refl
both_bits f g (place ∷ places) = ap (λ (rest : List Bool). (f place && g place) ∷ rest) (both_bits f g places)

pub joined_bits : (range : Option (Range ℕ)) (selection : Selection) (rows : Range ℕ) → zip2 ◌&&◌ (map (in_some_range range) (places_of rows)) (map (in_selection selection) (places_of rows)) ≡ picked_bits range selection rows
joined_bits range selection rows = both_bits (in_some_range range) (in_selection selection) (places_of rows)

pub as_long : (range : Option (Range ℕ)) (selection : Selection) (rows : Range ℕ) → length (map (in_some_range range) (places_of rows)) ≡ length (map (in_selection selection) (places_of rows))
as_long range selection rows = length-map (places_of rows) (in_some_range range) ∙ sym (length-map (places_of rows) (in_selection selection))
