-- Numbers that stand twice.
use Rattle.std.proofs.Common.{◌≡◌, ℕ, zero, suc, ◌+◌, ◌==◌, List, [], ◌∷◌, ◌++◌, refl, sym, ◌∙◌, ap, Bool, true, false, ◌||◌, cond, arith, add-one, append_assoc, map, filter, take, drop}
use Rattle.std.specs.Prelude.{eqb, slice_get, Some}
use Rattle.std.specs.List.{list_any}
use Rattle.std.proofs.lemmas.Bool.Decides.{nat_tests}
use Rattle.std.proofs.lemmas.List.{map-append, take-append-drop}
use Rattle.std.proofs.lemmas.List.Elements.{filter-append}
use Rattle.std.proofs.lemmas.List.Folds.{list_any-append}
use Rattle.vortex_io.specs.declared.ids.IoOwnerId.{IoOwnerId}
use Rattle.vortex_io.specs.declared.request.Fetch.{Fetch}
use Rattle.vortex_io.specs.declared.request.IoRequest.{IoRequest}
use Rattle.vortex_io.specs.declared.request.IoIntent.TheVariants as intent
use Rattle.vortex_io.specs.Source.{fetch_of, fetches, is_fetch}
use Rattle.vortex_scan.specs.Numbers.{repeats}
use Rattle.vortex_scan.specs.Fetching.{numbers}
use Rattle.vortex_scan.proofs.Places.{any_map}

eqb_sym : (x y : ℕ) → eqb x y ≡ eqb y x
eqb_sym x y = grind (arith, nat_tests)

shuffle : (a b c d : Bool) → ((a || (b || false)) || (c || d)) ≡ ((a || c) || (b || d))
shuffle a b c d = elim a as (λ t. ((t || (b || false)) || (c || d)) ≡ ((t || c) || (b || d))) [ true ↦ refl | false ↦ elim b as (λ t. ((t || false) || (c || d)) ≡ (c || (t || d))) [ true ↦ elim c as (λ t. true ≡ (t || true)) [ true ↦ refl | false ↦ refl ] | false ↦ refl ] ]

pub repeats_push : (ns : List ℕ) (n : ℕ) → repeats (ns ++ n ∷ []) ≡ (repeats ns || list_any (λ x. x == n) ns)
repeats_push [] n = refl
repeats_push (x ∷ xs) n =
    let ih = repeats_push xs n in
    let any : list_any (eqb x) (xs ++ n ∷ []) ≡ (list_any (eqb x) xs || (eqb x n || false)) = list_any-append (eqb x) xs (n ∷ []) in
    rw (any, ih) (shuffle (list_any (eqb x) xs) (eqb x n) (repeats xs) (list_any (λ y. y == n) xs))

or_left : (a b : Bool) → a ≡ true → (a || b) ≡ true
or_left a b e = rw e refl

or_right : (a b : Bool) → b ≡ true → (a || b) ≡ true
or_right a b e = rw e (elim a as (λ t. (t || true) ≡ true) [ true ↦ refl | false ↦ refl ])

or_cases : (a b : Bool) (Q : Type 0) → (a || b) ≡ true → (a ≡ true → Q) → (b ≡ true → Q) → Q
or_cases true b Q e f g = f refl
or_cases false b Q e f g = g e

any_more : (p : ℕ → Bool) (xs ys : List ℕ) → list_any p xs ≡ true → list_any p (xs ++ ys) ≡ true
any_more p xs ys e = list_any-append p xs ys ∙ or_left (list_any p xs) (list_any p ys) e

-- what stands twice does so with further numbers behind it
pub repeats_more : (ns ms : List ℕ) → repeats ns ≡ true → repeats (ns ++ ms) ≡ true
repeats_more [] ms e = absurd (cc)
repeats_more (x ∷ xs) ms e =
    or_cases (list_any (eqb x) xs) (repeats xs) (repeats (x ∷ xs ++ ms) ≡ true) e
    (λ h. or_left (list_any (eqb x) (xs ++ ms)) (repeats (xs ++ ms)) (any_more (eqb x) xs ms h))
    (λ h. or_right (list_any (eqb x) (xs ++ ms)) (repeats (xs ++ ms)) (repeats_more xs ms h))

-- a further fetch stands twice exactly where its number stands already
pub numbers_push : (fetches : List Fetch) (fetch : Fetch) → repeats (numbers fetches) ≡ false
    → repeats (numbers (fetches ++ fetch ∷ [])) ≡ list_any (λ (other : Fetch). other.request.0 == fetch.request.0) fetches
numbers_push fetches fetch none =
    let number : Fetch → ℕ = λ f. f.request.0 in
    let split : numbers (fetches ++ fetch ∷ []) ≡ numbers fetches ++ fetch.request.0 ∷ [] = map-append number fetches (fetch ∷ []) in
    rw split (repeats_push (numbers fetches) fetch.request.0 ∙ rw none (any_map (λ n. n == fetch.request.0) number fetches))

-- the fetches of the first requests of a batch, and of one more
pub fetches_more : (owner : IoOwnerId) (batch : List IoRequest) (i : ℕ) (request : IoRequest) → slice_get batch i ≡ Some request
    → fetches owner (take (suc i) batch) ≡ fetches owner (take i batch) ++ fetches owner (request ∷ [])
fetches_more owner [] i request e = absurd (cc)
fetches_more owner (r ∷ rs) zero request e =
    let same : r ≡ request = cc in
    rw same refl
fetches_more owner (r ∷ rs) (suc i) request e =
    let ih = fetches_more owner rs i request e in
    elim (is_fetch r) as (λ b. map (fetch_of owner) (cond b (r ∷ filter is_fetch (take (suc i) rs)) (filter is_fetch (take (suc i) rs)))
    ≡ map (fetch_of owner) (cond b (r ∷ filter is_fetch (take i rs)) (filter is_fetch (take i rs))) ++ fetches owner (request ∷ []))
    [ true ↦ ap (λ z. fetch_of owner r ∷ z) ih | false ↦ ih ]

-- the fetches of a whole batch begin with those of its first requests
pub fetches_begin : (owner : IoOwnerId) (batch : List IoRequest) (i : ℕ) → (more : List Fetch) × (fetches owner batch ≡ fetches owner (take i batch) ++ more)
fetches_begin owner batch i =
    let parts : filter is_fetch (take i batch ++ drop i batch) ≡ filter is_fetch (take i batch) ++ filter is_fetch (drop i batch) = filter-append is_fetch (take i batch) (drop i batch) in
    let mapped : map (fetch_of owner) (filter is_fetch (take i batch) ++ filter is_fetch (drop i batch)) ≡ fetches owner (take i batch) ++ fetches owner (drop i batch) = map-append (fetch_of owner) (filter is_fetch (take i batch)) (filter is_fetch (drop i batch)) in
    (fetches owner (drop i batch), sym (ap (fetches owner) (take-append-drop i batch)) ∙ (ap (map (fetch_of owner)) parts ∙ mapped))

-- what stands twice among the first requests does so among all
pub repeats_in_all : (old : List Fetch) (owner : IoOwnerId) (batch : List IoRequest) (i : ℕ) → repeats (numbers (old ++ fetches owner (take i batch))) ≡ true → repeats (numbers (old ++ fetches owner batch)) ≡ true
repeats_in_all old owner batch i h =
    let number : Fetch → ℕ = λ f. f.request.0 in
    let more = fetches_begin owner batch i in
    let whole : old ++ fetches owner batch ≡ (old ++ fetches owner (take i batch)) ++ more.0 = ap (λ z. old ++ z) more.1 ∙ sym (append_assoc old (fetches owner (take i batch)) more.0) in
    let split : numbers ((old ++ fetches owner (take i batch)) ++ more.0) ≡ numbers (old ++ fetches owner (take i batch)) ++ numbers more.0 = map-append number (old ++ fetches owner (take i batch)) more.0 in
    rw (whole, split) (repeats_more (numbers (old ++ fetches owner (take i batch))) (numbers more.0) h)

-- a batch after one more request
pub one_more_added : (old now next : List Fetch) (owner : IoOwnerId) (batch : List IoRequest) (i : ℕ) (request : IoRequest) → slice_get batch i ≡ Some request
    → now ≡ old ++ fetches owner (take i batch) → next ≡ now ++ fetches owner (request ∷ []) → next ≡ old ++ fetches owner (take (i + 1) batch)
one_more_added old now next owner batch i request at e f =
    let more = fetches_more owner batch i request at in
    rw (f, e, add-one, more) (append_assoc old (fetches owner (take i batch)) (fetches owner (request ∷ [])))

-- a fetch as a batch of one
pub one_fetch : (owner : IoOwnerId) (request : IoRequest) → request.intent ≡ intent.Fetch → fetches owner (request ∷ []) ≡ fetch_of owner request ∷ []
one_fetch owner request e = rw e refl

-- what stands twice with one more request does so among all
pub repeats_one_more : (old now : List Fetch) (owner : IoOwnerId) (batch : List IoRequest) (i : ℕ) (request : IoRequest) → slice_get batch i ≡ Some request
    → now ≡ old ++ fetches owner (take i batch) → repeats (numbers (now ++ fetches owner (request ∷ []))) ≡ true → repeats (numbers (old ++ fetches owner batch)) ≡ true
repeats_one_more old now owner batch i request at e h =
    let joined = one_more_added old now (now ++ fetches owner (request ∷ [])) owner batch i request at e refl in
    repeats_in_all old owner batch (i + 1) (rw joined at h)
