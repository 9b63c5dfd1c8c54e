-- Lists that are made of one list, item by item.
use Rattle.std.proofs.Common.{zero, suc, ℕ, ◌≡◌, List, [], ◌∷◌, map, replicate, refl, sym, ap, ◌∙◌}
use Rattle.std.specs.Simd.Lanes.{zip2}
use Rattle.vortex_array_kinds.proofs.TruthRows.{cons_same}

-- functions that agree on each item make the same list
pub map-same : {X Y : Type 0} (f g : X → Y) (xs : List X) → ((x : X) → f x ≡ g x) → map f xs ≡ map g xs
map-same f g [] h = refl
map-same f g (x ∷ xs) h = cons_same _ _ _ _ (h x) (map-same f g xs h)

-- what is made of both is made of the items
pub zip2-maps : {X A B C : Type 0} (h : A → B → C) (f : X → A) (g : X → B) (xs : List X) → zip2 h (map f xs) (map g xs) ≡ map (λ x. h (f x) (g x)) xs
zip2-maps h f g [] = refl
zip2-maps h f g (x ∷ xs) = ap (λ rest. h (f x) (g x) ∷ rest) (zip2-maps h f g xs)

pub map-maps : {X A B : Type 0} (h : A → B) (f : X → A) (xs : List X) → map h (map f xs) ≡ map (λ x. h (f x)) xs
map-maps h f [] = refl
map-maps h f (x ∷ xs) = ap (λ rest. h (f x) ∷ rest) (map-maps h f xs)

-- where each item of the first decides, the second changes nothing
pub decided : {X A B : Type 0} (h : A → B → A) (d : A) (f : X → A) (g : X → B) (n : ℕ) (xs : List X) → ((b : B) → h d b ≡ d) → map f xs ≡ replicate n d → map f xs ≡ map (λ x. h (f x) (g x)) xs
decided h d f g n [] k e = refl
decided h d f g zero (x ∷ xs) k e = cc e
decided h d f g (suc n) (x ∷ xs) k e =
    let here : f x ≡ d = cc e in
    let rest : map f xs ≡ replicate n d = cc e in
    cons_same _ _ _ _ (here ∙ sym (k (g x)) ∙ ap (λ a. h a (g x)) (sym here)) (decided h d f g n xs k rest)
