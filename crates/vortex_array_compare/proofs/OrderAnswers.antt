-- Answers of a function, and what an operator says of pairs whose order is known.
use Rattle.std.proofs.Common.{ℕ, Bool, not, ◌≡◌, List, [], ◌∷◌, length, map, replicate, refl, sym, ap, ◌∙◌, Some}
use Rattle.std.specs.Prelude.{ℤ, IsTrue}
use Rattle.std.specs.Cmp.Lexicographic.{slice_cmp}
use Rattle.std.specs.Ordering.{is_eq, is_ne, nat_cmp}
use Rattle.std.specs.List.{AllZip}
use Rattle.std.specs.Simd.Lanes.{zip2}
use Rattle.std.specs.declared.cmp.Ordering.{Ordering}
use Rattle.std.specs.declared.cmp.Ordering.TheVariants.{Less, Equal, Greater}
use Rattle.std.proofs.lemmas.Simd.{map-map, zip2_splat}
use Rattle.vortex_buffer.specs.declared.compare_operator.CompareOperator.{CompareOperator}
use Rattle.vortex_array_types.specs.Order.{accepts, compares, value_cmp}
use Rattle.vortex_array_types.specs.Typed.{same_apart_from_nullability}
use Rattle.vortex_array_types.specs.declared.types.Nullability.TheVariants.{NonNullable}
use Rattle.vortex_array_types.specs.declared.scalar.Value.{Value}
use Rattle.vortex_array_kinds.specs.StringValues.{string_type, string_value}
use Rattle.vortex_array_kinds.specs.declared.strings.StringKind.{StringKind}
use Rattle.vortex_array_kinds.specs.declared.strings.StringKind.TheVariants.{Utf8, Binary}

-- where each answer is a function of its lane, the answers are its map
pub answers-map : {X : Type 0} (P : X → Bool → Type 0) (t : X → Bool) (xs : List X) (bs : List Bool) → ((x : X) (b : Bool) → P x b → b ≡ t x) → AllZip P xs bs → bs ≡ map t xs
answers-map P t [] [] f h = refl
answers-map P t [] (b ∷ bs) f h = absurd h
answers-map P t (x ∷ xs) [] f h = absurd h
answers-map P t (x ∷ xs) (b ∷ bs) f h = ap (λ c. c ∷ bs) (f x b h.0) ∙ ap (λ cs. t x ∷ cs) (answers-map P t xs bs f h.1)

-- where each answer is what an operator says of its lane
pub accepted-map : (P : Ordering → Bool → Type 0) (operator k : CompareOperator) → operator ≡ k → ((o : Ordering) (b : Bool) → P o b → b ≡ accepts k o) → (orders : List Ordering) (bs : List Bool) → AllZip P orders bs → bs ≡ map (accepts operator) orders
accepted-map P operator k e f orders bs h = rw e (answers-map P (accepts k) orders bs f h)

-- items whose values stand as an order says
abbrev pub Stand : {X Y : Type 0} → (X → Value) → (Y → Value) → (X → Y → Ordering) → Type 0
Stand {X} {Y} f g order = (x : X) (y : Y) → value_cmp (f x) (g y) ≡ Some (order x y)

accepted : (operator : CompareOperator) (a b : Value) (o : Ordering) → value_cmp a b ≡ Some o → accepts operator o ≡ compares operator a b
accepted operator a b o e = rw e refl

-- what an operator says of the orders is what it says of the values
pub each-compared : {X Y : Type 0} (f : X → Value) (g : Y → Value) (order : X → Y → Ordering) (operator : CompareOperator) → Stand f g order → (xs : List X) (ys : List Y)
    → map (accepts operator) (zip2 order xs ys) ≡ zip2 (compares operator) (map f xs) (map g ys)
each-compared f g order operator h [] [] = refl
each-compared f g order operator h [] (y ∷ ys) = refl
each-compared f g order operator h (x ∷ xs) [] = refl
each-compared f g order operator h (x ∷ xs) (y ∷ ys) =
    ap (λ b. b ∷ map (accepts operator) (zip2 order xs ys)) (accepted operator (f x) (g y) (order x y) (h x y))
    ∙ ap (λ bs. compares operator (f x) (g y) ∷ bs) (each-compared f g order operator h xs ys)

-- and so beside one item
pub beside-compared : {X Y : Type 0} (f : X → Value) (g : Y → Value) (order : X → Y → Ordering) (operator : CompareOperator) → Stand f g order → (xs : List X) (y : Y)
    → map (accepts operator) (map (λ x. order x y) xs) ≡ map (λ v. compares operator v (g y)) (map f xs)
beside-compared f g order operator h [] y = refl
beside-compared f g order operator h (x ∷ xs) y =
    ap (λ b. b ∷ map (accepts operator) (map (λ z. order z y) xs)) (accepted operator (f x) (g y) (order x y) (h x y))
    ∙ ap (λ bs. compares operator (f x) (g y) ∷ bs) (beside-compared f g order operator h xs y)

-- one item in each place
pub same-compared : {X Y : Type 0} (f : X → Value) (g : Y → Value) (order : X → Y → Ordering) (operator : CompareOperator) → Stand f g order → (xs : List X) (n : ℕ) (y : Y) → n ≡ length xs
    → map (accepts operator) (zip2 order xs (replicate n y)) ≡ map (λ v. compares operator v (g y)) (map f xs)
same-compared f g order operator h xs n y e = ap (map (accepts operator)) (zip2_splat order xs n y (sym e)) ∙ beside-compared f g order operator h xs y

-- items that are numbers
pub numbers-compared : {X Y : Type 0} (V : ℤ → Value) (f : X → ℤ) (g : Y → ℤ) (order : X → Y → Ordering) (operator : CompareOperator) → Stand (λ x. V (f x)) (λ y. V (g y)) order → (xs : List X) (ys : List Y)
    → map (accepts operator) (zip2 order xs ys) ≡ zip2 (compares operator) (map V (map f xs)) (map V (map g ys))
numbers-compared V f g order operator h xs ys =
    each-compared (λ x. V (f x)) (λ y. V (g y)) order operator h xs ys
    ∙ ap (λ vs. zip2 (compares operator) vs (map (λ y. V (g y)) ys)) (sym (map-map V f xs))
    ∙ ap (zip2 (compares operator) (map V (map f xs))) (sym (map-map V g ys))

-- and one of them in each place
pub numbers-beside : {X : Type 0} (V : ℤ → Value) (f : X → ℤ) (order : X → X → Ordering) (operator : CompareOperator) → Stand (λ x. V (f x)) (λ y. V (f y)) order → (xs : List X) (y : X)
    → map (accepts operator) (zip2 order xs (replicate (length xs) y)) ≡ map (λ v. compares operator v (V (f y))) (map V (map f xs))
numbers-beside V f order operator h xs y =
    same-compared (λ x. V (f x)) (λ x. V (f x)) order operator h xs (length xs) y refl
    ∙ ap (map (λ v. compares operator v (V (f y)))) (sym (map-map V f xs))

-- strings of one type stand as their bytes do
pub strings-stand : (k l : StringKind) → IsTrue (same_apart_from_nullability (string_type k NonNullable) (string_type l NonNullable)) → Stand (string_value k) (string_value l) (slice_cmp nat_cmp)
strings-stand Utf8 Utf8 e x y = refl
strings-stand Utf8 Binary e x y = absurd (cc e)
strings-stand Binary Utf8 e x y = absurd (cc e)
strings-stand Binary Binary e x y = refl

-- and so of one kind
pub kind-stands : (k : StringKind) → Stand (string_value k) (string_value k) (slice_cmp nat_cmp)
kind-stands Utf8 x y = refl
kind-stands Binary x y = refl

differs : (o : Ordering) → not (is_eq o) ≡ is_ne o
differs Less = refl
differs Equal = refl
differs Greater = refl

-- what is not equal differs
pub not-equal : (os : List Ordering) → map not (map is_eq os) ≡ map is_ne os
not-equal [] = refl
not-equal (o ∷ os) = ap (λ b. b ∷ map not (map is_eq os)) (differs o) ∙ ap (λ bs. is_ne o ∷ bs) (not-equal os)

-- a function of each pair's answer
pub mapped-pairs : {X Y Z W : Type 0} (f : Z → W) (g : X → Y → Z) (xs : List X) (ys : List Y) → zip2 (λ x y. f (g x y)) xs ys ≡ map f (zip2 g xs ys)
mapped-pairs f g [] ys = refl
mapped-pairs f g (x ∷ xs) [] = refl
mapped-pairs f g (x ∷ xs) (y ∷ ys) = ap (λ rest. f (g x y) ∷ rest) (mapped-pairs f g xs ys)
