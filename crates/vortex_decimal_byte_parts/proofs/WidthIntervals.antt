-- Intervals beside the numbers of a width.
use Rattle.std.proofs.Common.{ℕ, ◌≡◌, Bool, true, false, not, ◌&&◌, cond, List, [], ◌∷◌, length, map, refl, sym, ap, subst, ◌∙◌, arith}
use Rattle.std.specs.Prelude.{ℤ, int_le, ◌<ℤ◌, ◌≤ℤ◌, All, IsTrue, replicate}
use Rattle.std.specs.Int.{int_max, int_min}
use lib.Signed.{lt_z}
use Rattle.std.proofs.lemmas.Int.{clamps, ints}
use Rattle.vortex_array_types.specs.Row.{in_width}
use Rattle.vortex_array_types.specs.Widths.{greatest, least}
use Rattle.vortex_array_types.specs.declared.types.PType.{PType}
use Rattle.vortex_array_types.proofs.Bounds.{in_width_between}
use Rattle.vortex_decimal_byte_parts.specs.Held.{Each, lies_in, within}
use Rattle.vortex_decimal_byte_parts.specs.declared.interval.Interval.{Interval}
use Rattle.vortex_decimal_byte_parts.proofs.NumberBounds.{each-of-all}

none_within : (lo hi x y n : ℤ) → int_min y hi <ℤ int_max x lo → IsTrue (int_le lo n && int_le n hi) → within x y n ≡ false
none_within lo hi x y n e h = grind (arith, ints, clamps)

all_within : (lo hi x y n : ℤ) → int_max x lo ≡ lo → int_min y hi ≡ hi → IsTrue (int_le lo n && int_le n hi) → within x y n ≡ true
all_within lo hi x y n e f h = grind (arith, ints, clamps)

some_within : (lo hi x y n : ℤ) → IsTrue (int_le lo n && int_le n hi) → within (int_max x lo) (int_min y hi) n ≡ within x y n
some_within lo hi x y n h = grind (arith, ints, clamps)

first_within : (lo hi x y : ℤ) → int_max x lo ≤ℤ int_min y hi → IsTrue (int_le lo (int_max x lo) && int_le (int_max x lo) hi)
first_within lo hi x y h = grind (arith, ints, clamps)

last_within : (lo hi x y : ℤ) → int_max x lo ≤ℤ int_min y hi → IsTrue (int_le lo (int_min y hi) && int_le (int_min y hi) hi)
last_within lo hi x y h = grind (arith, ints, clamps)

between : (w : PType) (n : ℤ) → IsTrue (in_width w n) → IsTrue (int_le (least w) n && int_le n (greatest w))
between w n h = sym (in_width_between w n) ∙ h

-- the ends of what an interval has of a width lie in it
first-in : (w : PType) (x y : ℤ) → int_max x (least w) ≤ℤ int_min y (greatest w) → IsTrue (in_width w (int_max x (least w)))
first-in w x y h = in_width_between w (int_max x (least w)) ∙ first_within (least w) (greatest w) x y h

last-in : (w : PType) (x y : ℤ) → int_max x (least w) ≤ℤ int_min y (greatest w) → IsTrue (in_width w (int_min y (greatest w)))
last-in w x y h = in_width_between w (int_min y (greatest w)) ∙ last_within (least w) (greatest w) x y h

inside : (i : Interval) (n : ℤ) → i.outside ≡ false → within i.least i.greatest n ≡ lies_in i n
inside i n e = ap (λ b. cond b (not (within i.least i.greatest n)) (within i.least i.greatest n)) (sym e)

none_each : (w : PType) (i : Interval) → i.outside ≡ false → int_min i.greatest (greatest w) <ℤ int_max i.least (least w) → (ns : List ℤ) → Each (λ n. IsTrue (in_width w n)) ns → replicate (length ns) false ≡ map (lies_in i) ns
none_each w i e l [] h = refl
none_each w i e l (n ∷ ns) h =
    ap (λ b. b ∷ replicate (length ns) false) (sym (none_within (least w) (greatest w) i.least i.greatest n l (between w n h.0)) ∙ inside i n e)
    ∙ ap (λ bs. lies_in i n ∷ bs) (none_each w i e l ns h.1)

-- an interval that has no number of the width
none-in : (w : PType) (i : Interval) (ns : List ℤ) → i.outside ≡ false → int_min i.greatest (greatest w) <ℤ int_max i.least (least w) → All (λ n. IsTrue (in_width w n)) ns → replicate (length ns) false ≡ map (lies_in i) ns
none-in w i ns e l h = none_each w i e l ns (each-of-all (λ n. IsTrue (in_width w n)) (λ n. IsTrue (in_width w n)) ns (λ n f. f) h)

all_each : (w : PType) (i : Interval) → i.outside ≡ false → int_max i.least (least w) ≡ least w → int_min i.greatest (greatest w) ≡ greatest w → (ns : List ℤ) → Each (λ n. IsTrue (in_width w n)) ns → replicate (length ns) true ≡ map (lies_in i) ns
all_each w i e l g [] h = refl
all_each w i e l g (n ∷ ns) h =
    ap (λ b. b ∷ replicate (length ns) true) (sym (all_within (least w) (greatest w) i.least i.greatest n l g (between w n h.0)) ∙ inside i n e)
    ∙ ap (λ bs. lies_in i n ∷ bs) (all_each w i e l g ns h.1)

-- and one that has all of them
all-in : (w : PType) (i : Interval) (ns : List ℤ) → i.outside ≡ false → int_max i.least (least w) ≡ least w → int_min i.greatest (greatest w) ≡ greatest w → All (λ n. IsTrue (in_width w n)) ns → replicate (length ns) true ≡ map (lies_in i) ns
all-in w i ns e l g h = all_each w i e l g ns (each-of-all (λ n. IsTrue (in_width w n)) (λ n. IsTrue (in_width w n)) ns (λ n f. f) h)

some_each : (w : PType) (i : Interval) → i.outside ≡ false → (ns : List ℤ) → Each (λ n. IsTrue (in_width w n)) ns → map (within (int_max i.least (least w)) (int_min i.greatest (greatest w))) ns ≡ map (lies_in i) ns
some_each w i e [] h = refl
some_each w i e (n ∷ ns) h =
    ap (λ b. b ∷ map (within (int_max i.least (least w)) (int_min i.greatest (greatest w))) ns) (some_within (least w) (greatest w) i.least i.greatest n (between w n h.0) ∙ inside i n e)
    ∙ ap (λ bs. lies_in i n ∷ bs) (some_each w i e ns h.1)

-- and one that has some
some-in : (w : PType) (i : Interval) (ns : List ℤ) → i.outside ≡ false → All (λ n. IsTrue (in_width w n)) ns → map (within (int_max i.least (least w)) (int_min i.greatest (greatest w))) ns ≡ map (lies_in i) ns
some-in w i ns e h = some_each w i e ns (each-of-all (λ n. IsTrue (in_width w n)) (λ n. IsTrue (in_width w n)) ns (λ n f. f) h)

-- what is read of each item, and asked of what was read
pub map-twice : {X Y Z : Type 0} (f : Y → Z) (g : X → Y) (xs : List X) → map f (map g xs) ≡ map (λ x. f (g x)) xs
map-twice f g [] = refl
map-twice f g (x ∷ xs) = ap (λ more. f (g x) ∷ more) (map-twice f g xs)

lower_first : (x y : ℤ) → lt_z x y ≡ true → x <ℤ y
lower_first x y h = grind (arith, ints)

not_lower : (x y : ℤ) → lt_z x y ≡ false → y ≤ℤ x
not_lower x y h = grind (arith, ints)

ordered : (w : PType) (i : Interval) (m n : ℤ) (b : Bool) → m ≡ int_max i.least (least w) → n ≡ int_min i.greatest (greatest w) → lt_z n m ≡ b → lt_z (int_min i.greatest (greatest w)) (int_max i.least (least w)) ≡ b
ordered w i m n b em en h = ap (λ x. lt_z x (int_max i.least (least w))) (sym en) ∙ ap (lt_z n) (sym em) ∙ h

-- the ends of what an interval has of a width, where it has some of it
pub first-of : (w : PType) (i : Interval) (m n : ℤ) → m ≡ int_max i.least (least w) → n ≡ int_min i.greatest (greatest w) → lt_z n m ≡ false → IsTrue (in_width w m)
first-of w i m n em en h = subst (λ x. IsTrue (in_width w x)) (sym em) (first-in w i.least i.greatest (not_lower (int_min i.greatest (greatest w)) (int_max i.least (least w)) (ordered w i m n false em en h)))

pub last-of : (w : PType) (i : Interval) (m n : ℤ) → m ≡ int_max i.least (least w) → n ≡ int_min i.greatest (greatest w) → lt_z n m ≡ false → IsTrue (in_width w n)
last-of w i m n em en h = subst (λ x. IsTrue (in_width w x)) (sym en) (last-in w i.least i.greatest (not_lower (int_min i.greatest (greatest w)) (int_max i.least (least w)) (ordered w i m n false em en h)))

-- bits of numbers of a width that an interval has none of, all of and some of
pub bits-none : (w : PType) (i : Interval) (ns : List ℤ) (bits : List Bool) (k : ℕ) (m n : ℤ) → i.outside ≡ false → m ≡ int_max i.least (least w) → n ≡ int_min i.greatest (greatest w) → lt_z n m ≡ true → All (λ z. IsTrue (in_width w z)) ns → k ≡ length ns → bits ≡ replicate k false → bits ≡ map (lies_in i) ns
bits-none w i ns bits k m n e em en h fits same is =
    is ∙ ap (λ z. replicate z false) same ∙ none-in w i ns e (lower_first (int_min i.greatest (greatest w)) (int_max i.least (least w)) (ordered w i m n true em en h)) fits

pub bits-all : (w : PType) (i : Interval) (ns : List ℤ) (bits : List Bool) (k : ℕ) (m n : ℤ) → i.outside ≡ false → m ≡ int_max i.least (least w) → n ≡ int_min i.greatest (greatest w) → m ≡ least w → n ≡ greatest w → All (λ z. IsTrue (in_width w z)) ns → k ≡ length ns → bits ≡ replicate k true → bits ≡ map (lies_in i) ns
bits-all w i ns bits k m n e em en first last fits same is = is ∙ ap (λ z. replicate z true) same ∙ all-in w i ns e (sym em ∙ first) (sym en ∙ last) fits

pub bits-some : (w : PType) (i : Interval) (ns : List ℤ) (bits : List Bool) (m n : ℤ) → i.outside ≡ false → m ≡ int_max i.least (least w) → n ≡ int_min i.greatest (greatest w) → All (λ z. IsTrue (in_width w z)) ns → bits ≡ map (within m n) ns → bits ≡ map (lies_in i) ns
bits-some w i ns bits m n e em en fits is =
    is ∙ ap (λ x. map (within x n) ns) em ∙ ap (λ x. map (within (int_max i.least (least w)) x) ns) en ∙ some-in w i ns e fits
