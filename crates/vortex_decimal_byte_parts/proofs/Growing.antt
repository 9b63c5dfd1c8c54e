-- Lists that grow by one item in each turn of a loop.
use Rattle.std.proofs.Common.{ℕ, ◌+◌, ◌<◌, ◌≡◌, Bool, false, List, [], ◌∷◌, ◌++◌, length, get_or, take, refl, sym, ap, ◌∙◌, arith}
use Rattle.std.specs.Prelude.{ℤ}
use Rattle.std.specs.List.{AllZip, zip}
use Rattle.std.proofs.Math.Seq.{take-length}
use Rattle.std.proofs.lemmas.List.{get_or_default, length-append}
use Rattle.std.proofs.lemmas.Slice.Zip.{all_zipped_more, length-zip}
use Rattle.vortex_compute.proofs.MapSteps.{lanes_more}
use Rattle.vortex_compute.proofs.Pairs.{pair_read}
use Rattle.vortex_decimal_byte_parts.specs.Split.{SplitInto, SplitsTo}

-- the items so far and the next one
pub grown : {X : Type 0} (xs ys : List X) (i : ℕ) (x : X) → i < length xs → x ≡ get_or xs i x → ys ≡ take i xs → ys ++ x ∷ [] ≡ take (i + 1) xs
grown xs ys i x l e h = ap (λ zs. zs ++ x ∷ []) h ∙ sym (lanes_more xs i x l e)

-- all items
pub all_grown : {X : Type 0} (xs ys : List X) (n : ℕ) → n ≡ length xs → ys ≡ take n xs → ys ≡ xs
all_grown xs ys n e h = h ∙ ap (λ m. take m xs) e ∙ take-length xs

-- what holds of the items so far, one by one, and of the next one
pub each_grown : {A B : Type 0} (R : A → B → Type 0) (xs : List A) (ys : List B) (i : ℕ) (x : A) (y : B) → i < length xs → x ≡ get_or xs i x → AllZip R (take i xs) ys → R x y → AllZip R (take (i + 1) xs) (ys ++ y ∷ [])
each_grown R xs ys i x y l e h r = rw (lanes_more xs i x l e) (all_zipped_more R (take i xs) ys x y h r)

-- all of them
pub each_all : {A B : Type 0} (R : A → B → Type 0) (xs : List A) (ys : List B) (n : ℕ) → n ≡ length xs → AllZip R (take n xs) ys → AllZip R xs ys
each_all R xs ys n e h =
    let full : take n xs ≡ xs = ap (λ m. take m xs) e ∙ take-length xs in
    rw full at h

-- pairs of items so far and the next pair
zip_grown : {A B : Type 0} (xs : List A) (ys : List B) (x : A) (y : B) → length xs ≡ length ys → zip (xs ++ x ∷ []) (ys ++ y ∷ []) ≡ zip xs ys ++ (x, y) ∷ []
zip_grown [] [] x y e = refl
zip_grown [] (b ∷ ys) x y e = absurd (omega (arith, e))
zip_grown (a ∷ xs) [] x y e = absurd (omega (arith, e))
zip_grown (a ∷ xs) (b ∷ ys) x y e = ap (λ zs. (a, b) ∷ zs) (zip_grown xs ys x y (omega (arith, e)))

-- values split so far
pub record SplitSoFar {X : Type 0} (P : X → ℤ × List ℕ → Type 0) (values : List X) (bits : List Bool) (i : ℕ) (msp : List ℤ) (lower : List ℕ) : Type 0 where
  pub msp_length : length msp ≡ i
  pub lower_length : length lower ≡ i
  pub each : AllZip (SplitsTo P) (take i (zip values bits)) (zip msp lower)

-- and one value more
pub split_more : {X : Type 0} (P : X → ℤ × List ℕ → Type 0) (values : List X) (bits : List Bool) (i : ℕ) (msp : List ℤ) (lower : List ℕ) (v : X) (b : Bool) (high : ℤ) (low : ℕ) → i < length values → length values ≡ length bits → v ≡ get_or values i v → b ≡ get_or bits i false
    → SplitSoFar P values bits i msp lower → SplitsTo P (v, b) (high, low) → SplitSoFar P values bits (i + 1) (msp ++ high ∷ []) (lower ++ low ∷ [])
split_more P values bits i msp lower v b high low l same is-v is-b s to =
    let beside : i < length bits = omega (arith, l, same) in
    let here : i < length (zip values bits) = omega (arith, l, beside, length-zip values bits) in
    let read : (v, b) ≡ get_or (zip values bits) i (v, b) = pair_read values bits i v b l beside is-v (is-b ∙ get_or_default bits i false b beside) in
    let more : AllZip (SplitsTo P) (take (i + 1) (zip values bits)) (zip msp lower ++ (high, low) ∷ []) = each_grown (SplitsTo P) (zip values bits) (zip msp lower) i (v, b) (high, low) here read s.each to in
    record {
      msp_length = length-append msp (high ∷ []) ∙ ap (λ n. n + 1) s.msp_length;
      lower_length = length-append lower (low ∷ []) ∙ ap (λ n. n + 1) s.lower_length;
      each = rw (zip_grown msp lower high low (s.msp_length ∙ sym s.lower_length)) more;
    }

-- all values
pub split_all : {X : Type 0} (P : X → ℤ × List ℕ → Type 0) (values : List X) (bits : List Bool) (i : ℕ) (msp : List ℤ) (lower : List ℕ) → i ≡ length values → length values ≡ length bits → SplitSoFar P values bits i msp lower → SplitInto P values bits msp lower
split_all P values bits i msp lower e same s =
    let full : take i (zip values bits) ≡ zip values bits = ap (λ m. take m (zip values bits)) (omega (arith, e, same, length-zip values bits)) ∙ take-length (zip values bits) in
    record {
      msp_length = s.msp_length ∙ e;
      lower_length = s.lower_length ∙ e;
      each = rw full at s.each;
    }
