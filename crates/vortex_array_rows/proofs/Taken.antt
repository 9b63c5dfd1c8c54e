use Rattle.std.proofs.Common.{ℕ, zero, suc, ◌+◌, ◌<◌, ◌≡◌, Bool, false, cond, List, [], ◌∷◌, ◌++◌, length, get_or, take, map, refl, sym, ap, ◌∙◌, arith}
use Rattle.std.specs.List.{All}
use Rattle.std.proofs.lemmas.List.{take_more, get_or_default, length-map, map-append}
use Rattle.std.proofs.lemmas.Simd.{length-zip2, get_or-zip2}
use Rattle.vortex_array_rows.specs.Taken.{taken_or}

-- an item of a map, past the end too
get_or-map_any : {X Y : Type 0} (f : X → Y) (xs : List X) (i : ℕ) (d : X) → get_or (map f xs) i (f d) ≡ f (get_or xs i d)
get_or-map_any f [] i d = refl
get_or-map_any f (x ∷ xs) zero d = refl
get_or-map_any f (x ∷ xs) (suc i) d = get_or-map_any f xs i d

-- the number of a place is that of the numbers
pub number_at : {P : Type 0} (f : P → ℕ) (places : List P) (k : ℕ) (p : P) → k < length places → p ≡ get_or places k p → f p ≡ get_or (map f places) k 0
number_at f places k p inside is =
    let long : k < length (map f places) = rw length-map inside in
    ap f is ∙ sym (get_or-map_any f places k p) ∙ get_or_default (map f places) k (f p) 0 long

-- the number of a place is below what all of the numbers are
pub place_below : {P : Type 0} (f : P → ℕ) (n : ℕ) (places : List P) (k : ℕ) (p : P) → All (λ i. i < n) (map f places) → k < length places → p ≡ get_or places k p → f p < n
place_below f n places k p within inside is =
    let long : k < length (map f places) = rw length-map inside in
    rw (number_at f places k p inside is) (within k 0 long)

-- one more place, or the default
pub taken_or_more : {X : Type 0} (d : X) (items : List X) (places : List ℕ) (set : List Bool) (n : ℕ) (x : X) → n < length places → length places ≡ length set → x ≡ cond (get_or set n false) (get_or items (get_or places n 0) d) d → taken_or d items (take (n + 1) places) (take (n + 1) set) ≡ taken_or d items (take n places) (take n set) ++ x ∷ []
taken_or_more d items [] set n x within same is = absurd (omega arith)
taken_or_more d items (i ∷ places) [] n x within same is = absurd (omega arith)
taken_or_more d items (i ∷ places) (b ∷ set) zero x within same is = ap (λ y. y ∷ []) (sym is)
taken_or_more d items (i ∷ places) (b ∷ set) (suc n) x within same is =
    let next : suc n + 1 ≡ suc (n + 1) = omega arith in
    rw next (ap (λ ys. cond b (get_or items i d) d ∷ ys) (taken_or_more d items places set n x (omega arith) (omega arith) is))

-- as many rows as places
pub length-taken_or : {X : Type 0} (d : X) (items : List X) (places : List ℕ) (set : List Bool) → length places ≡ length set → length (taken_or d items places set) ≡ length places
length-taken_or d items places set same = length-zip2 (λ place bit. cond bit (get_or items place d) d) places set same

-- row i
pub taken_or_at : {X : Type 0} (d : X) (items : List X) (places : List ℕ) (set : List Bool) (i : ℕ) (x : X) → length places ≡ length set → i < length places → x ≡ cond (get_or set i false) (get_or items (get_or places i 0) d) d → x ≡ get_or (taken_or d items places set) i x
taken_or_at d items places set i x same within is =
    let inside : i < length set = omega (arith, same, within) in
    is ∙ sym (get_or-zip2 (λ place bit. cond bit (get_or items place d) d) places set i 0 false x within inside)

-- one more place, by its number, or the default
pub taken_or_next : {X P : Type 0} (f : P → ℕ) (d : X) (items : List X) (places : List P) (set : List Bool) (n : ℕ) (p : P) (x : X) → n < length places → length places ≡ length set → p ≡ get_or places n p → x ≡ cond (get_or set n false) (get_or items (f p) d) d → taken_or d items (take (n + 1) (map f places)) (take (n + 1) set) ≡ taken_or d items (take n (map f places)) (take n set) ++ x ∷ []
taken_or_next f d items places set n p x inside same is here =
    let long : n < length (map f places) = rw length-map inside in
    let alike : length (map f places) ≡ length set = rw length-map same in
    taken_or_more d items (map f places) set n x long alike (here ∙ ap (λ i. cond (get_or set n false) (get_or items i d) d) (number_at f places n p inside is))

-- a map over the numbers of one more place
pub map_next : {Y P : Type 0} (h : ℕ → Y) (f : P → ℕ) (places : List P) (n : ℕ) (p : P) → n < length places → p ≡ get_or places n p → map h (take (n + 1) (map f places)) ≡ map h (take n (map f places)) ++ h (f p) ∷ []
map_next h f places n p inside is =
    let long : n < length (map f places) = rw length-map inside in
    ap (map h) (take_more (map f places) n 0 long ∙ ap (λ i. take n (map f places) ++ i ∷ []) (sym (number_at f places n p inside is)))
    ∙ map-append h (take n (map f places)) (f p ∷ [])

-- an item of a map over the numbers of places
pub mapped_at : {Y P : Type 0} (h : ℕ → Y) (f : P → ℕ) (places : List P) (i : ℕ) (p : P) (y : Y) → p ≡ get_or places i p → y ≡ h (f p) → y ≡ get_or (map h (map f places)) i y
mapped_at h f places i p y is here =
    here
    ∙ ap (λ q. h (f q)) is
    ∙ ap h (sym (get_or-map_any f places i p))
    ∙ sym (get_or-map_any h (map f places) i (f p))
    ∙ ap (get_or (map h (map f places)) i) (sym here)

-- as many rows as places
pub length-taken_or_at : {X P : Type 0} (f : P → ℕ) (d : X) (items : List X) (places : List P) (set : List Bool) → length places ≡ length set → length (taken_or d items (map f places) set) ≡ length places
length-taken_or_at f d items places set same =
    let alike : length (map f places) ≡ length set = rw length-map same in
    length-taken_or d items (map f places) set alike ∙ length-map places f

-- row i, by the number of its place
pub taken_or_here : {X P : Type 0} (f : P → ℕ) (d : X) (items : List X) (places : List P) (set : List Bool) (i : ℕ) (p : P) (x : X) → length places ≡ length set → i < length places → p ≡ get_or places i p → x ≡ cond (get_or set i false) (get_or items (f p) d) d → x ≡ get_or (taken_or d items (map f places) set) i x
taken_or_here f d items places set i p x same inside is here =
    let long : i < length (map f places) = rw length-map inside in
    let alike : length (map f places) ≡ length set = rw length-map same in
    taken_or_at d items (map f places) set i x alike long (here ∙ ap (λ n. cond (get_or set i false) (get_or items n d) d) (number_at f places i p inside is))
