-- The listed places of a range and its other places, seen from the part of the list that lies there.
use Rattle.std.proofs.Common.{ℕ, ◌+◌, ◌-◌, ◌<◌, ◌≤◌, ◌≡◌, true, false, not, eqb, List, length, map, replicate, All, refl, sym, ap, ◌∙◌, subst, arith, ⊎_elim}
use Rattle.std.specs.List.{filter, list_any, range_with_len}
use Rattle.std.specs.Ordering.{nat_cmp}
use Rattle.std.proofs.lemmas.Bool.{cases_lt}
use Rattle.std.proofs.lemmas.List.{ext_get_or}
use Rattle.std.proofs.lemmas.List.Elements.{All-weaker, filter_passes}
use Rattle.std.proofs.lemmas.List.FromFn.{length-range_with_len, length-map-range_with_len, get_or-map-range_with_len}
use Rattle.std.proofs.lemmas.Map.Views.{any-filter_same}
use Rattle.vortex_buffer.proofs.Bits.{map-replicate}
use Rattle.vortex_scan_types.specs.Listed.{LiesWithin}
use Rattle.vortex_scan_types.specs.Sorted.{Increases}
use Rattle.vortex_scan_types.proofs.Ascending.{between}
use Rattle.vortex_scan_types.proofs.Counted.{count_in_part, passes_all, passes_none, map_opposite, count_all}

-- a place that a test finds between two bounds
lies_between : (first end place : ℕ) → between first end place ≡ true → LiesWithin first (end - first) place
lies_between first end place e =
    ⊎_elim
    (λ (before : place < first). absurd (grind arith))
    (λ (from : first ≤ place).
    ⊎_elim
    (λ (low : place < end). (from, omega arith))
    (λ (high : end ≤ place). absurd (grind arith))
    (cases_lt place end))
    (cases_lt place first)

-- the listed places of a range lie there
part_lies : (first end : ℕ) (xs : List ℕ) → All (LiesWithin first (end - first)) (filter (between first end) xs)
part_lies first end xs =
    All-weaker (λ x. between first end x ≡ true) (LiesWithin first (end - first)) (λ x e. lies_between first end x e) (filter (between first end) xs) (filter_passes (between first end) xs)

-- an item that is a place is between what the place is between
same_between : (first end place x : ℕ) → between first end place ≡ true → eqb x place ≡ true → between first end x ≡ true
same_between first end place x inside same = let e : place ≡ x = grind arith in subst (λ y. between first end y ≡ true) e inside

-- a place of a range is listed where it is among the listed places there
listed_in_part : (first end : ℕ) (xs : List ℕ) (place : ℕ) → between first end place ≡ true → list_any (λ x. eqb x place) (filter (between first end) xs) ≡ list_any (λ x. eqb x place) xs
listed_in_part first end xs place inside = any-filter_same (λ x. eqb x place) (between first end) true (λ x same. same_between first end place x inside same) xs

-- place i of a range is between its bounds
place_inside : (first end i : ℕ) → i < end - first → between first end (first + i) ≡ true
place_inside first end i l = grind arith

-- tests that agree on the places of a stretch
same_answers : {X : Type 0} (d : X) (f g : ℕ → X) (first n : ℕ) → ((i : ℕ) → i < n → f (first + i) ≡ g (first + i)) → map f (range_with_len first n) ≡ map g (range_with_len first n)
same_answers d f g first n h =
    ext_get_or d (map f (range_with_len first n)) (map g (range_with_len first n))
    (length-map-range_with_len f first n ∙ sym (length-map-range_with_len g first n))
    (λ i l.
    let m : i < n = omega (arith, length-map-range_with_len f first n, l) in
    get_or-map-range_with_len f first n i (first + i) d m refl ∙ h i m ∙ sym (get_or-map-range_with_len g first n i (first + i) d m refl))

-- what two searches find in a list, and how many places they search for
pub record IsPart (first end n : ℕ) (part xs : List ℕ) : Type 0 where
  pub is : part ≡ filter (between first end) xs
  pub long : n ≡ length (range_with_len first (end - first))

-- the length of a range by its bounds
as_long : (first end n : ℕ) (part xs : List ℕ) → IsPart first end n part xs → n ≡ end - first
as_long first end n part xs h = h.long ∙ length-range_with_len first (end - first)

-- the part lies in the range
pub part_fits : (first end n : ℕ) (part xs : List ℕ) → IsPart first end n part xs → All (LiesWithin first n) part
part_fits first end n part xs h =
    let P : List ℕ → Type 0 = λ ys. All (LiesWithin first n) ys in
    let Q : ℕ → Type 0 = λ k. All (LiesWithin first k) (filter (between first end) xs) in
    subst P (sym h.is) (subst Q (sym (as_long first end n part xs h)) (part_lies first end xs))

-- which places of a range are listed, by the part of the list
pub listed_by_part : (first end n : ℕ) (part xs : List ℕ) → IsPart first end n part xs → map (λ place. list_any (λ x. eqb x place) part) (range_with_len first n) ≡ map (λ place. list_any (λ x. eqb x place) xs) (range_with_len first (end - first))
listed_by_part first end n part xs h =
    ap (λ k. map (λ place. list_any (λ x. eqb x place) part) (range_with_len first k)) (as_long first end n part xs h)
    ∙ ap (λ ys. map (λ place. list_any (λ x. eqb x place) ys) (range_with_len first (end - first))) h.is
    ∙ same_answers false (λ place. list_any (λ x. eqb x place) (filter (between first end) xs)) (λ place. list_any (λ x. eqb x place) xs) first (end - first)
    (λ i l. listed_in_part first end xs (first + i) (place_inside first end i l))

-- which places of a range are not listed
pub others_by_part : (first end n : ℕ) (part xs : List ℕ) → IsPart first end n part xs → map (λ place. not (list_any (λ x. eqb x place) part)) (range_with_len first n) ≡ map (λ place. not (list_any (λ x. eqb x place) xs)) (range_with_len first (end - first))
others_by_part first end n part xs h =
    map_opposite (λ place. list_any (λ x. eqb x place) part) (range_with_len first n)
    ∙ ap (map not) (listed_by_part first end n part xs h)
    ∙ sym (map_opposite (λ place. list_any (λ x. eqb x place) xs) (range_with_len first (end - first)))

-- no place of a range is listed where the part is empty, and each is where the part is as long as the range
pub none_listed : (first end n : ℕ) (part xs : List ℕ) → Increases nat_cmp xs → IsPart first end n part xs → length part ≡ 0 → replicate n false ≡ map (λ place. list_any (λ x. eqb x place) xs) (range_with_len first (end - first))
none_listed first end n part xs up h none =
    ap (λ k. replicate k false) h.long
    ∙ sym (passes_none (λ place. list_any (λ x. eqb x place) xs) (range_with_len first (end - first)) (count_in_part first end xs up ∙ sym (ap length h.is) ∙ none))

pub all_listed : (first end n : ℕ) (part xs : List ℕ) → Increases nat_cmp xs → IsPart first end n part xs → length part ≡ n → replicate n true ≡ map (λ place. list_any (λ x. eqb x place) xs) (range_with_len first (end - first))
all_listed first end n part xs up h all =
    ap (λ k. replicate k true) h.long
    ∙ sym (passes_all (λ place. list_any (λ x. eqb x place) xs) (range_with_len first (end - first)) (count_in_part first end xs up ∙ sym (ap length h.is) ∙ all ∙ h.long))

-- the same of the places that are not listed
pub all_others : (first end n : ℕ) (part xs : List ℕ) → Increases nat_cmp xs → IsPart first end n part xs → length part ≡ 0 → replicate n true ≡ map (λ place. not (list_any (λ x. eqb x place) xs)) (range_with_len first (end - first))
all_others first end n part xs up h none =
    sym (map-replicate not n false)
    ∙ ap (map not) (none_listed first end n part xs up h none)
    ∙ sym (map_opposite (λ place. list_any (λ x. eqb x place) xs) (range_with_len first (end - first)))

pub no_others : (first end n : ℕ) (part xs : List ℕ) → Increases nat_cmp xs → IsPart first end n part xs → length part ≡ n → replicate n false ≡ map (λ place. not (list_any (λ x. eqb x place) xs)) (range_with_len first (end - first))
no_others first end n part xs up h all =
    sym (map-replicate not n true)
    ∙ ap (map not) (all_listed first end n part xs up h all)
    ∙ sym (map_opposite (λ place. list_any (λ x. eqb x place) xs) (range_with_len first (end - first)))

-- a selection of all places
pub all_hold : (xs : List ℕ) → map (λ (x : ℕ). true) xs ≡ replicate (length xs) true
all_hold xs = passes_all (λ x. true) xs (count_all xs)
