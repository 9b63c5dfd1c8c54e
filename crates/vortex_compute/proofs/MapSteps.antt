use Rattle.std.proofs.Common.{ℕ, ◌+◌, ◌*◌, ◌<◌, ◌≤◌, ◌≡◌, Bool, cond, eqb, true, false, List, [], ◌∷◌, ◌++◌, length, get_or, take, drop, set, map, refl, sym, ap, ◌∙◌, arith, length-take, append_assoc, append-nil}
use Rattle.std.specs.List.{AllZip, fold}
use Rattle.std.specs.Simd.Lanes.{zip2}
use Rattle.std.proofs.lemmas.List.{get_or_default, take_more, take_more_set, map-append, get_or-drop, length-drop, take-append-drop, take-take, drop-take}
use Rattle.std.proofs.lemmas.List.Sums.{fold-append}
use Rattle.std.proofs.lemmas.Slice.Zip.{all_zipped_more, AllZip-long}
use Rattle.std.specs.Int.{bit_at}
use Rattle.vortex_buffer.specs.Bits.{word_of}
use Rattle.vortex_buffer.proofs.Bits.{bit_at-word_of}
use Rattle.vortex_compute.specs.Answers.{MapsChecked, MapsValid}
use Rattle.vortex_compute.specs.Groups.{ValidGroup}

-- one more lane at the end of the first i
pub lanes_more : {X : Type 0} (lanes : List X) (i : ℕ) (x : X) → i < length lanes → x ≡ get_or lanes i x → take (i + 1) lanes ≡ take i lanes ++ x ∷ []
lanes_more lanes i x within read = take_more lanes i x within ∙ ap (λ y. take i lanes ++ y ∷ []) (sym read)

-- one more answer written as it is
pub map_more : {X R : Type 0} (P : X → R → Type 0) (lanes : List X) (out : List R) (i : ℕ) (x : X) (r : R) → i < length lanes → i < length out → x ≡ get_or lanes i x → P x r → AllZip P (take i lanes) (take i out) → AllZip P (take (i + 1) lanes) (take (i + 1) (set out i r))
map_more P lanes out i x r within room read here so_far = rw (lanes_more lanes i x within read, take_more_set out i r room) (all_zipped_more P (take i lanes) (take i out) x r so_far here)

-- one more answer of a value and a failure word
pub checked_more : {X R W : Type 0} (P : X → R × W → Type 0) (none : W) (or : W → W → W) (lanes : List X) (out : List R) (word : W) (i : ℕ) (x : X) (r : R × W) → i < length lanes → i < length out → x ≡ get_or lanes i x → P x r → MapsChecked P none or (take i lanes) (take i out) word → MapsChecked P none or (take (i + 1) lanes) (take (i + 1) (set out i r.0)) (or word r.1)
checked_more P none or lanes out word i x r within room read here so_far = record {
  answers = so_far.answers ++ r ∷ [];
  each = rw (lanes_more lanes i x within read) (all_zipped_more P (take i lanes) so_far.answers x r so_far.each here);
  written = take_more_set out i r.0 room ∙ ap (λ vs. vs ++ r.0 ∷ []) so_far.written ∙ sym (map-append (λ a. a.0) so_far.answers (r ∷ []));
  failures =
      ap (λ w. or w r.1) so_far.failures
      ∙ sym (fold-append or none (map (λ a. a.1) so_far.answers) (r.1 ∷ []))
      ∙ ap (fold or none) (sym (map-append (λ a. a.1) so_far.answers (r ∷ [])));
}

-- two lists joined pair by pair, each with one more
zip2-push : {A B C : Type 0} (f : A → B → C) (xs : List A) (ys : List B) (x : A) (y : B) → length ys ≡ length xs → zip2 f (xs ++ x ∷ []) (ys ++ y ∷ []) ≡ zip2 f xs ys ++ f x y ∷ []
zip2-push f [] [] x y e = refl
zip2-push f [] (z ∷ ys) x y e = absurd (omega (arith, e))
zip2-push f (w ∷ xs) [] x y e = absurd (omega (arith, e))
zip2-push f (w ∷ xs) (z ∷ ys) x y e = ap (λ zs. f w z ∷ zs) (zip2-push f xs ys x y (omega (arith, e)))

-- two lists joined pair by pair, part by part
zip2-append : {A B C : Type 0} (f : A → B → C) (xs xs' : List A) (ys ys' : List B) → length ys ≡ length xs → zip2 f (xs ++ xs') (ys ++ ys') ≡ zip2 f xs ys ++ zip2 f xs' ys'
zip2-append f [] xs' [] ys' e = refl
zip2-append f [] xs' (z ∷ ys) ys' e = absurd (omega (arith, e))
zip2-append f (w ∷ xs) xs' [] ys' e = absurd (omega (arith, e))
zip2-append f (w ∷ xs) xs' (z ∷ ys) ys' e = ap (λ zs. f w z ∷ zs) (zip2-append f xs xs' ys ys' (omega (arith, e)))

-- the first n + m of a list in two parts
pub take-add : {X : Type 0} (n m : ℕ) (xs : List X) → take (n + m) xs ≡ take n xs ++ take m (drop n xs)
take-add n m xs =
    let n_le : n ≤ n + m = omega arith in
    sym (take-append-drop n (take (n + m) xs))
    ∙ ap (λ ys. ys ++ drop n (take (n + m) xs)) (take-take n (n + m) xs n_le)
    ∙ ap (λ ys. take n xs ++ ys) (drop-take n m xs)

-- the answers to two parts of the lanes are answers to both
pub AllZip-append : {X Y : Type 0} (R : X → Y → Type 0) (xs xs' : List X) (ys ys' : List Y) → AllZip R xs ys → AllZip R xs' ys' → AllZip R (xs ++ xs') (ys ++ ys')
AllZip-append R [] xs' [] ys' h h' = h'
AllZip-append R [] xs' (y ∷ ys) ys' h h' = absurd h
AllZip-append R (x ∷ xs) xs' [] ys' h h' = absurd h
AllZip-append R (x ∷ xs) xs' (y ∷ ys) ys' h h' = (h.0, AllZip-append R xs xs' ys ys' h.1 h')

-- one more lane of a group, valid or null
pub valid_more : {X R : Type 0} (P : X → R → Type 0) (d : R) (lanes : List X) (mask : List Bool) (start i : ℕ) (old now : List R) (x : X) (r v : R) → start + i < length lanes → start + i < length mask → start + i < length now → x ≡ get_or lanes (start + i) x → P x r → v ≡ cond (get_or mask (start + i) false) r d → ValidGroup P d lanes mask start i old now → ValidGroup P d lanes mask start (i + 1) old (set now (start + i) v)
valid_more P d lanes mask start i old now x r v within masked room read here is so_far =
    let on : start + (i + 1) ≡ start + i + 1 = omega arith in
    let inside : i < length (drop start lanes) = omega (arith, length-drop start lanes) in
    let bits : i < length (drop start mask) = omega (arith, length-drop start mask) in
    let read_here : x ≡ get_or (drop start lanes) i x = read ∙ sym (get_or-drop start lanes i x) in
    let b = get_or mask (start + i) false in
    let bit : b ≡ get_or (drop start mask) i b = get_or_default mask (start + i) false b masked ∙ sym (get_or-drop start mask i b) in
    let long : length so_far.answers ≡ length (take i (drop start mask)) =
    AllZip-long P (take i (drop start lanes)) so_far.answers so_far.each ∙ omega (arith, length-take i (drop start lanes), length-take i (drop start mask)) in
    record {
      answers = so_far.answers ++ r ∷ [];
      each = rw (lanes_more (drop start lanes) i x inside read_here) (all_zipped_more P (take i (drop start lanes)) so_far.answers x r so_far.each here);
      written =
          ap (λ k. take k (set now (start + i) v)) on
          ∙ take_more_set now (start + i) v room
          ∙ ap (λ vs. vs ++ v ∷ []) so_far.written
          ∙ append_assoc (take start old) (zip2 (λ valid answer. cond valid answer d) (take i (drop start mask)) so_far.answers) (v ∷ [])
          ∙ ap (λ w. take start old ++ (zip2 (λ valid answer. cond valid answer d) (take i (drop start mask)) so_far.answers ++ w ∷ [])) is
          ∙ ap (λ vs. take start old ++ vs) (sym (zip2-push (λ valid answer. cond valid answer d) (take i (drop start mask)) so_far.answers b r long))
          ∙ ap (λ bs. take start old ++ zip2 (λ valid answer. cond valid answer d) bs (so_far.answers ++ r ∷ [])) (sym (lanes_more (drop start mask) i b bits bit));
    }

-- no lane of a group
pub valid_none : {X R : Type 0} (P : X → R → Type 0) (d : R) (lanes : List X) (mask : List Bool) (start : ℕ) (old : List R) → ValidGroup P d lanes mask start 0 old old
valid_none P d lanes mask start old =
    let on : start + 0 ≡ start = omega arith in
    record { answers = []; each = tt; written = ap (λ k. take k old) on ∙ sym (append-nil (take start old)) }

-- one more group of lanes, valid or null
pub valid_group_more : {X R : Type 0} (P : X → R → Type 0) (d : R) (lanes : List X) (mask : List Bool) (start count end : ℕ) (now new : List R) → end ≡ start + count → end ≤ length lanes → length mask ≡ length lanes → MapsValid P d (take start lanes) (take start mask) (take start now) → ValidGroup P d lanes mask start count now new → MapsValid P d (take end lanes) (take end mask) (take end new)
valid_group_more P d lanes mask start count end now new is within same so_far group =
    let long : length so_far.answers ≡ length (take start mask) =
    AllZip-long P (take start lanes) so_far.answers so_far.each ∙ omega (arith, length-take start lanes, length-take start mask, same) in
    record {
      answers = so_far.answers ++ group.answers;
      each = rw (is, take-add) (AllZip-append P (take start lanes) (take count (drop start lanes)) so_far.answers group.answers so_far.each group.each);
      written =
          ap (λ k. take k new) is
          ∙ group.written
          ∙ ap (λ vs. vs ++ zip2 (λ valid answer. cond valid answer d) (take count (drop start mask)) group.answers) so_far.written
          ∙ sym (zip2-append (λ valid answer. cond valid answer d) (take start mask) (take count (drop start mask)) so_far.answers group.answers long)
          ∙ ap (λ bs. zip2 (λ valid answer. cond valid answer d) bs (so_far.answers ++ group.answers)) (sym (ap (λ k. take k mask) is ∙ take-add start count mask));
    }

-- a truth as a number, tested
one_is : (b : Bool) → eqb (cond b 1 0) 1 ≡ b
one_is true = refl
one_is false = refl

-- the test of a bit in a word of the mask is the mask's bit
pub set_bit : (mask : List Bool) (k bit i word : ℕ) → bit < 64 → 64 * k + bit ≡ i → word ≡ word_of mask k → eqb (bit_at word bit) 1 ≡ get_or mask i false
set_bit mask k bit i word small at is =
    ap (λ w. eqb (bit_at w bit) 1) is
    ∙ ap (λ b. eqb b 1) (bit_at-word_of mask k bit small)
    ∙ one_is (get_or mask (64 * k + bit) false)
    ∙ ap (λ j. get_or mask j false) at
