-- The last place of a byte.
use Rattle.std.proofs.Common.{◌≡◌, ◌<◌, ◌+◌, ◌++◌, ◌==◌, ◌∙◌, ◌-◌, ◌≤◌, ap, sym, ℕ, List, [], ◌∷◌, length, length-take-le, take, get_or, true, false, Some, None, arith, add-one, refl}
use Rattle.std.proofs.lemmas.List.{take_more}
use Rattle.vortex_query_fields.specs.Columns.{last_place}

-- a last byte that is it
pub place-here : (b : ℕ) (front : List ℕ) (c : ℕ) → (c == b) ≡ true → last_place b (front ++ c ∷ []) ≡ Some (length front)
unfolding last_place
place-here b [] c e = rw e refl
place-here b (d ∷ front) c e = rw (place-here b front c e) (ap Some (add-one (length front)))

-- a last byte that is another
pub place-before : (b : ℕ) (front : List ℕ) (c : ℕ) → (c == b) ≡ false → last_place b (front ++ c ∷ []) ≡ last_place b front
unfolding last_place
place-before b [] c e = rw e refl
place-before b (d ∷ front) c e = rw (place-before b front c e) refl

-- the last byte but for those that are others
pub place-found : (b : ℕ) (cell : List ℕ) (left : ℕ) → 0 < left → left ≤ length cell → last_place b (take left cell) ≡ last_place b cell → (get_or cell (left - 1) 0 == b) ≡ true → Some (left - 1) ≡ last_place b cell
place-found b cell left some fits inv h =
    let one : left ≡ left - 1 + 1 = omega arith in
    let front : List ℕ = take (left - 1) cell in
    let long : length front ≡ left - 1 = length-take-le (left - 1) cell (omega arith) in
    let e : take left cell ≡ front ++ get_or cell (left - 1) 0 ∷ [] = ap (λ n. take n cell) one ∙ take_more cell (left - 1) 0 (omega arith) in
    sym (sym inv ∙ ap (last_place b) e ∙ place-here b front (get_or cell (left - 1) 0) h ∙ ap Some long)

pub place-kept : (b : ℕ) (cell : List ℕ) (left : ℕ) → 0 < left → left ≤ length cell → last_place b (take left cell) ≡ last_place b cell → (get_or cell (left - 1) 0 == b) ≡ false → last_place b (take (left - 1) cell) ≡ last_place b cell
place-kept b cell left some fits inv h =
    let one : left ≡ left - 1 + 1 = omega arith in
    let front : List ℕ = take (left - 1) cell in
    let e : take left cell ≡ front ++ get_or cell (left - 1) 0 ∷ [] = ap (λ n. take n cell) one ∙ take_more cell (left - 1) 0 (omega arith) in
    sym (place-before b front (get_or cell (left - 1) 0) h) ∙ ap (last_place b) (sym e) ∙ inv

pub place-none : (b : ℕ) (cell : List ℕ) (left : ℕ) → left ≡ 0 → last_place b (take left cell) ≡ last_place b cell → None ≡ last_place b cell
unfolding last_place
place-none b cell left z inv = ap (λ n. last_place b (take n cell)) (sym z) ∙ inv
