use Rattle.std.proofs.Common.{ℕ, ◌+◌, ◌-◌, ◌*◌, ◌%◌, ◌^◌, ◌<◌, ◌≤◌, ◌≡◌, Bool, true, false, not, ◌&&◌, cond, List, [], ◌∷◌, ◌++◌, length, get_or, take, drop, set, map, min, refl, sym, ap, ◌∙◌, arith, length-take, length-drop, length-append, append_assoc, ⊎_elim, Option, Some, None, w64}
use Rattle.std.specs.Option.{is_none, is_some, unwrap_or}
use Rattle.std.specs.Int.{bit_at, trailing_zeros}
use Rattle.std.specs.Int.Bits.{bit_or, bit_and}
use Rattle.std.specs.Simd.Lanes.{mask_l}
use Rattle.std.proofs.lemmas.Simd.{bit_mask_l}
use Rattle.std.proofs.lemmas.Nat.{and_le_r}
use Rattle.std.proofs.lemmas.Nat.Bits.{bit_at_and, bit_at-zero, bit_at-trailing_zeros}
use Rattle.std.proofs.lemmas.Bool.{cases_lt}
use Rattle.std.proofs.lemmas.List.{take_more, take_more_set, map-append, get_or-map, get_or_past, get_or-append-add, get_or_append_left, length-map}
use Rattle.std.proofs.lemmas.Slice.Zip.{all_zipped_more, AllZip-long}
use Rattle.vortex_buffer.specs.Bits.{word_of}
use Rattle.vortex_buffer.proofs.Bits.{bit_at-word_of, word_of-lt}
use Rattle.vortex_compute.specs.Answers.{fails_at, all_valid, MapsLanes, FailsFirst}
use Rattle.vortex_compute.specs.Groups.{TriedGroup}
use Rattle.vortex_compute.proofs.MapSteps.{take-add, AllZip-append}
use Rattle.vortex_compute.proofs.WordSteps.{push_word}
use Rattle.std.proofs.Common.{replicate, suc, lt_of_lt_of_le}
use Rattle.std.proofs.Math.Pow.{pow_mono}
use Rattle.std.specs.List.{AllZip}
use Rattle.std.proofs.lemmas.Simd.{mask_l-lt}
use Rattle.std.proofs.lemmas.List.{get_or-replicate}
use Rattle.std.proofs.lemmas.Nat.Bits.{same_from_bits_below}
use mir.Val.{bool_byte}

-- the code's test for none is the definition's
pub none_from_some : {R : Type 0} (o : Option R) (b : Bool) → is_some o ≡ not b → b ≡ is_none o
none_from_some None true e = refl
none_from_some None false e = cc
none_from_some (Some x) true e = cc
none_from_some (Some x) false e = refl

-- one more lane of a group
pub group_step : {X R : Type 0} (P : X → Option R → Type 0) (d : R) (lanes : List X) (base i word : ℕ) (old now : List R) (x : X) (o : Option R) → i < 64 → i < length lanes → x ≡ get_or lanes i x → base + i < length now → TriedGroup P d (take i lanes) base i old now word → P x o → TriedGroup P d (take (i + 1) lanes) base (i + 1) old (set now (base + i) (unwrap_or o d)) (bit_or word (bool_byte (is_none o) * 2 ^ i % 2 ^ 64))
group_step P d lanes base i word old now x o small within read room h here =
    let long : length h.answers ≡ i = AllZip-long P (take i lanes) h.answers h.each ∙ omega (arith, length-take i lanes) in
    let lanes_is : take (i + 1) lanes ≡ take i lanes ++ x ∷ [] = take_more lanes i x within ∙ ap (λ y. take i lanes ++ y ∷ []) (sym read) in
    let on : base + (i + 1) ≡ base + i + 1 = omega arith in
    let n : length (map is_none h.answers) ≡ i = length-map h.answers is_none ∙ long in
    record {
      answers = h.answers ++ o ∷ [];
      each = rw lanes_is (all_zipped_more P (take i lanes) h.answers x o h.each here);
      none_is = push_word (map is_none h.answers) (is_none o) word i small n h.none_is ∙ ap mask_l (sym (map-append is_none h.answers (o ∷ [])));
      written =
          ap (λ k. take k (set now (base + i) (unwrap_or o d))) on
          ∙ take_more_set now (base + i) (unwrap_or o d) room
          ∙ ap (λ ys. ys ++ unwrap_or o d ∷ []) h.written
          ∙ append_assoc (take base old) (map (λ p. unwrap_or p d) h.answers) (unwrap_or o d ∷ [])
          ∙ ap (λ ys. take base old ++ ys) (sym (map-append (λ p. unwrap_or p d) h.answers (o ∷ [])));
    }

-- one more lane of a group, as the code writes it
pub group_step_as : {X R : Type 0} (P : X → Option R → Type 0) (d : R) (lanes : List X) (base i word : ℕ) (old now : List R) (x : X) (o : Option R) (v : R) (b : Bool) → v ≡ unwrap_or o d → is_some o ≡ not b → i < 64 → i < length lanes → x ≡ get_or lanes i x → base + i < length now → TriedGroup P d (take i lanes) base i old now word → P x o → TriedGroup P d (take (i + 1) lanes) base (i + 1) old (set now (base + i) v) (bit_or word (bool_byte b * 2 ^ i % 2 ^ 64))
group_step_as P d lanes base i word old now x o v b ev eb small within read room h here = rw (ev, none_from_some o b eb) (group_step P d lanes base i word old now x o small within read room h here)

-- and, as the lesser of two bits
both_bits : (a b : Bool) → min (cond a 1 0) (cond b 1 0) ≡ cond {A = ℕ} (b && a) 1 0
both_bits true true = refl
both_bits true false = refl
both_bits false true = refl
both_bits false false = refl

-- an unset bit as a truth
bit_none : (b : Bool) → cond {A = ℕ} b 1 0 ≡ 0 → b ≡ false
bit_none true e = absurd (omega arith)
bit_none false e = refl

-- a set bit as a truth
pub bit_some : (b : Bool) → cond {A = ℕ} b 1 0 ≡ 1 → b ≡ true
bit_some true e = refl
bit_some false e = absurd (omega arith)

-- bit j of the valid failures of a group
pub masked_at : {R : Type 0} (bits : List Bool) (more : List (Option R)) (k word j : ℕ) → j < 64 → j < length more → word ≡ mask_l (map is_none more) → bit_at (bit_and word (word_of bits k)) j ≡ cond (get_or bits (64 * k + j) false && is_none (get_or more j None)) 1 0
masked_at bits more k word j small within is =
    bit_at_and word (word_of bits k) j
    ∙ ap (λ w. min (bit_at w j) (bit_at (word_of bits k) j)) is
    ∙ ap (λ b. min b (bit_at (word_of bits k) j)) (bit_mask_l (map is_none more) j ∙ ap (λ b. cond b 1 0) (get_or-map is_none more j None false within))
    ∙ ap (λ b. min (cond (is_none (get_or more j None)) 1 0) b) (bit_at-word_of bits k j small)
    ∙ both_bits (is_none (get_or more j None)) (get_or bits (64 * k + j) false)

-- a set bit belongs to a lane of the group
pub masked_within : {R : Type 0} (bits : List Bool) (more : List (Option R)) (k word j : ℕ) → word ≡ mask_l (map is_none more) → bit_at (bit_and word (word_of bits k)) j ≡ 1 → j < length more
masked_within bits more k word j is one =
    ⊎_elim
    (λ (inside : j < length more). inside)
    (λ (past : length more ≤ j).
    let none : bit_at word j ≡ 0 = ap (λ w. bit_at w j) is ∙ bit_mask_l (map is_none more) j ∙ ap (λ b. cond b 1 0) (get_or_past (map is_none more) j false (rw length-map past)) in
    let both = bit_at_and word (word_of bits k) j in
    absurd (omega (arith, none, both, one)))
    (cases_lt j (length more))

-- whether a lane of a further group fails
pub fails_right : {R : Type 0} (bits : List Bool) (answers more : List (Option R)) (k j : ℕ) → length answers ≡ 64 * k → fails_at bits (answers ++ more) (64 * k + j) ≡ (get_or bits (64 * k + j) false && is_none (get_or more j None))
fails_right bits answers more k j long = ap (λ o. get_or bits (64 * k + j) false && is_none o) (ap (λ n. get_or (answers ++ more) (n + j) None) (sym long) ∙ get_or-append-add answers more j None)

-- whether a lane fails does not depend on later answers
fails_left : {R : Type 0} (bits : List Bool) (answers more : List (Option R)) (i : ℕ) → i < length answers → fails_at bits (answers ++ more) i ≡ fails_at bits answers i
fails_left bits answers more i h = ap (λ o. get_or bits i false && is_none o) (get_or_append_left answers more None i h)

-- no valid lane of the group failed
pub passes_on : {R : Type 0} (bits : List Bool) (answers more : List (Option R)) (k word i : ℕ) → length answers ≡ 64 * k → length more ≤ 64 → word ≡ mask_l (map is_none more) → bit_and word (word_of bits k) ≡ 0 → ((j : ℕ) → j < 64 * k → fails_at bits answers j ≡ false) → i < 64 * k + length more → fails_at bits (answers ++ more) i ≡ false
passes_on bits answers more k word i long small is none before l =
    ⊎_elim
    (λ (left : i < 64 * k). fails_left bits answers more i (rw long left) ∙ before i left)
    (λ (right : 64 * k ≤ i).
    let j = i - 64 * k in
    let at : 64 * k + j ≡ i = omega arith in
    let inside : j < length more = omega arith in
    let bit = sym (masked_at bits more k word j (omega arith) inside is) ∙ ap (λ w. bit_at w j) none ∙ bit_at-zero j in
    ap (fails_at bits (answers ++ more)) (sym at) ∙ fails_right bits answers more k j long ∙ bit_none _ bit)
    (cases_lt i (64 * k))

-- one more group of lanes
pub masked_more : {X R : Type 0} (P : X → Option R → Type 0) (d : R) (lanes : List X) (bits : List Bool) (now new : List R) (k m j word : ℕ) → m ≤ 64 → j ≡ 64 * k + m → j ≤ length lanes → MapsLanes P d (take (64 * k) lanes) bits (take (64 * k) now) → TriedGroup P d (take m (drop (64 * k) lanes)) (64 * k) m now new word → bit_and word (word_of bits k) ≡ 0 → MapsLanes P d (take j lanes) bits (take j new)
masked_more P d lanes bits now new k m j word small end inside h w none =
    let long : length h.answers ≡ 64 * k = AllZip-long P (take (64 * k) lanes) h.answers h.each ∙ omega (arith, length-take (64 * k) lanes, end, inside) in
    let more : length w.answers ≡ m = AllZip-long P (take m (drop (64 * k) lanes)) w.answers w.each ∙ omega (arith, length-take m (drop (64 * k) lanes), length-drop (64 * k) lanes, end, inside) in
    let so_far : length (take (64 * k) lanes) ≡ 64 * k = omega (arith, length-take (64 * k) lanes, end, inside) in
    let all : length (take j lanes) ≡ 64 * k + length w.answers = omega (arith, length-take j lanes, end, inside, more) in
    record {
      answers = h.answers ++ w.answers;
      each = rw (end, take-add) (AllZip-append P (take (64 * k) lanes) (take m (drop (64 * k) lanes)) h.answers w.answers h.each w.each);
      passes = λ i l. passes_on bits h.answers w.answers k word i long (rw more small) w.none_is none (λ i l. h.passes i (rw so_far l)) (rw all at l);
      written = ap (λ n. take n new) end ∙ w.written ∙ ap (λ ys. ys ++ map (λ o. unwrap_or o d) w.answers) h.written ∙ sym (map-append (λ o. unwrap_or o d) h.answers w.answers);
    }

-- the word of the valid failures has 64 bits
pub fits_masked : (word : ℕ) (bits : List Bool) (k : ℕ) → bit_and word (word_of bits k) < 2 ^ 64
fits_masked word bits k = omega (arith, and_le_r word (word_of bits k), word_of-lt bits k)

-- no lane before the first failure failed
pub before_fails : {R : Type 0} (bits : List Bool) (answers more : List (Option R)) (k word tz j : ℕ) → length answers ≡ 64 * k → word ≡ mask_l (map is_none more) → tz < 64 → tz < length more → ((i : ℕ) → i < 64 * k → fails_at bits answers i ≡ false) → ((i : ℕ) → i < tz → bit_at (bit_and word (word_of bits k)) i ≡ 0) → j < 64 * k + tz → fails_at bits (answers ++ more) j ≡ false
before_fails bits answers more k word tz j long is small inside before low l =
    ⊎_elim
    (λ (left : j < 64 * k). fails_left bits answers more j (rw long left) ∙ before j left)
    (λ (right : 64 * k ≤ j).
    let i = j - 64 * k in
    let at : 64 * k + i ≡ j = omega arith in
    let first : i < tz = omega arith in
    let bit = sym (masked_at bits more k word i (omega arith) (omega arith) is) ∙ low i first in
    ap (fails_at bits (answers ++ more)) (sym at) ∙ fails_right bits answers more k i long ∙ bit_none _ bit)
    (cases_lt j (64 * k))

-- a valid lane of the group failed
pub masked_fails : {X R : Type 0} (P : X → Option R → Type 0) (d : R) (lanes : List X) (bits : List Bool) (now new : List R) (k m word : ℕ) → 64 * k + m ≤ length lanes → MapsLanes P d (take (64 * k) lanes) bits (take (64 * k) now) → TriedGroup P d (take m (drop (64 * k) lanes)) (64 * k) m now new word → (bit_and word (word_of bits k) ≡ 0 → ⊥) → FailsFirst P lanes bits (64 * k + trailing_zeros w64 (bit_and word (word_of bits k)))
masked_fails P d lanes bits now new k m word inside h w some =
    let valid = bit_and word (word_of bits k) in
    let tz = trailing_zeros w64 valid in
    let long : length h.answers ≡ 64 * k = AllZip-long P (take (64 * k) lanes) h.answers h.each ∙ omega (arith, length-take (64 * k) lanes, inside) in
    let more : length w.answers ≡ m = AllZip-long P (take m (drop (64 * k) lanes)) w.answers w.each ∙ omega (arith, length-take m (drop (64 * k) lanes), length-drop (64 * k) lanes, inside) in
    let so_far : length (take (64 * k) lanes) ≡ 64 * k = omega (arith, length-take (64 * k) lanes, inside) in
    let both : length (h.answers ++ w.answers) ≡ 64 * k + m = omega (arith, length-append h.answers w.answers, long, more) in
    let fits : valid < 2 ^ 64 = fits_masked word bits k in
    let low = bit_at-trailing_zeros w64 valid (omega (arith, some)) fits in
    let tz_in : tz < length w.answers = masked_within bits w.answers k word tz w.none_is low.1 in
    record {
      answers = h.answers ++ w.answers;
      each = rw (both, take-add) (AllZip-append P (take (64 * k) lanes) (take m (drop (64 * k) lanes)) h.answers w.answers h.each w.each);
      within = omega (arith, both, tz_in, more);
      fails = fails_right bits h.answers w.answers k tz long ∙ bit_some _ (sym (masked_at bits w.answers k word tz low.0 tz_in w.none_is) ∙ low.1);
      before = λ j l. before_fails bits h.answers w.answers k word tz j long w.none_is low.0 tz_in (λ i l. h.passes i (rw so_far l)) low.2 l;
    }

-- the lesser of 0 and a bit
none_left : (b : ℕ) → min 0 b ≡ 0
none_left b = omega arith

-- where every lane is valid, the failures of a group are its valid failures
pub all_failures : {R : Type 0} (n k m word : ℕ) (more : List (Option R)) → length more ≡ m → m ≤ 64 → 64 * k + m ≤ n → word ≡ mask_l (map is_none more) → bit_and word (word_of (replicate n true) k) ≡ word
all_failures n k m word more long small inside is =
    same_from_bits_below 64 (bit_and word (word_of (replicate n true) k)) word (fits_masked word (replicate n true) k)
    (rw is (lt_of_lt_of_le (mask_l-lt (map is_none more)) (pow_mono {i = length (map is_none more)} {j = 64} (omega (arith, length-map more is_none, long, small)))))
    (λ j l.
    ⊎_elim
    (λ (here : j < length more).
    masked_at (replicate n true) more k word j l here is
    ∙ ap (λ b. cond (b && is_none (get_or more j None)) 1 0) (get_or-replicate n (64 * k + j) true false (omega (arith, long, inside, here)))
    ∙ sym (ap (λ w. bit_at w j) is ∙ bit_mask_l (map is_none more) j ∙ ap (λ b. cond b 1 0) (get_or-map is_none more j None false here)))
    (λ (past : length more ≤ j).
    let none : bit_at word j ≡ 0 = ap (λ w. bit_at w j) is ∙ bit_mask_l (map is_none more) j ∙ ap (λ b. cond b 1 0) (get_or_past (map is_none more) j false (rw length-map past)) in
    bit_at_and word (word_of (replicate n true) k) j ∙ ap (λ b. min b (bit_at (word_of (replicate n true) k) j)) none ∙ none_left (bit_at (word_of (replicate n true) k) j) ∙ sym none)
    (cases_lt j (length more)))

-- true is not false
pub clash : true ≡ false → ⊥
clash e = cc

-- answers of which none is none are values
some_values : {X R : Type 0} (P : X → Option R → Type 0) (d : R) (lanes : List X) (answers : List (Option R)) → AllZip P lanes answers → ((i : ℕ) → i < length lanes → is_none (get_or answers i None) ≡ false) → AllZip (λ x v. P x (Some v)) lanes (map (λ o. unwrap_or o d) answers)
some_values P d [] [] each h = tt
some_values P d [] (o ∷ os) each h = absurd each
some_values P d (x ∷ xs) [] each h = absurd each
some_values P d (x ∷ xs) (None ∷ os) each h = absurd (clash (h 0 (omega arith)))
some_values P d (x ∷ xs) (Some v ∷ os) each h = (each.0, some_values P d xs os each.1 (λ i l. h (suc i) (omega (arith, l))))

-- where every lane is valid and none fails, each value was given
pub all_given : {X R : Type 0} (P : X → Option R → Type 0) (d : R) (lanes : List X) (new : List R) → MapsLanes P d lanes (all_valid lanes) new → AllZip (λ x v. P x (Some v)) lanes new
all_given P d lanes new h = rw h.written (some_values P d lanes h.answers h.each (λ i l. ap (λ b. b && is_none (get_or h.answers i None)) (sym (get_or-replicate (length lanes) i true false l)) ∙ h.passes i l))

-- the group's answers are as many as its lanes
group_long : {X R : Type 0} (P : X → Option R → Type 0) (d : R) (lanes : List X) (k m word : ℕ) (now new : List R) → 64 * k + m ≤ length lanes → (w : TriedGroup P d (take m (drop (64 * k) lanes)) (64 * k) m now new word) → length w.answers ≡ m
group_long P d lanes k m word now new inside w = AllZip-long P (take m (drop (64 * k) lanes)) w.answers w.each ∙ omega (arith, length-take m (drop (64 * k) lanes), length-drop (64 * k) lanes, inside)

-- one more group of lanes, where every lane is valid
pub unmasked_more : {X R : Type 0} (P : X → Option R → Type 0) (d : R) (lanes : List X) (now new : List R) (k m j word : ℕ) → m ≤ 64 → j ≡ 64 * k + m → j ≤ length lanes → MapsLanes P d (take (64 * k) lanes) (all_valid lanes) (take (64 * k) now) → TriedGroup P d (take m (drop (64 * k) lanes)) (64 * k) m now new word → word ≡ 0 → MapsLanes P d (take j lanes) (all_valid lanes) (take j new)
unmasked_more P d lanes now new k m j word small end inside h w none =
    let within : 64 * k + m ≤ length lanes = omega (arith, end, inside) in
    masked_more P d lanes (all_valid lanes) now new k m j word small end inside h w
    (all_failures (length lanes) k m word w.answers (group_long P d lanes k m word now new within w) small within w.none_is ∙ none)

-- a lane of the group failed, where every lane is valid
pub unmasked_fails : {X R : Type 0} (P : X → Option R → Type 0) (d : R) (lanes : List X) (now new : List R) (k m word : ℕ) → m ≤ 64 → 64 * k + m ≤ length lanes → MapsLanes P d (take (64 * k) lanes) (all_valid lanes) (take (64 * k) now) → TriedGroup P d (take m (drop (64 * k) lanes)) (64 * k) m now new word → (word ≡ 0 → ⊥) → FailsFirst P lanes (all_valid lanes) (64 * k + trailing_zeros w64 word)
unmasked_fails P d lanes now new k m word small within h w some =
    let same = all_failures (length lanes) k m word w.answers (group_long P d lanes k m word now new within w) small within w.none_is in
    rw same at (masked_fails P d lanes (all_valid lanes) now new k m word within h w (λ e. some (sym same ∙ e)))
