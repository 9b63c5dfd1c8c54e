use Rattle.std.proofs.Common.{ℕ, ◌+◌, ◌*◌, ◌<◌, ◌≤◌, ◌≡◌, Bool, List, [], ◌∷◌, ◌++◌, length, get_or, take, drop, set, map, refl, sym, ap, ◌∙◌, arith, length-take, length-drop, length-append, append_assoc, append-nil, Option, Some, None, w64, true, false, not, min, suc, ◌&&◌, ◌%◌, ◌^◌}
use Rattle.std.specs.Option.{is_none, is_some, unwrap_or}
use Rattle.std.specs.Int.{trailing_zeros}
use Rattle.std.specs.Int.Bits.{bit_or, bit_and}
use Rattle.std.specs.Simd.Lanes.{mask_l}
use Rattle.std.proofs.lemmas.Nat.Bits.{bit_at-trailing_zeros}
use Rattle.std.proofs.lemmas.List.{length-map, get_or-replicate}
use Rattle.std.proofs.lemmas.Simd.{map-map}
use mir.Val.{bool_byte}
use Rattle.vortex_buffer.specs.Bits.{word_of}
use Rattle.vortex_compute.specs.Answers.{all_valid}
use Rattle.vortex_compute.proofs.WordSteps.{push_word}
use Rattle.vortex_compute.proofs.Failures.{none_from_some, passes_on, fits_masked, masked_within, masked_at, fails_right, bit_some, before_fails, clash, all_failures}
use Rattle.std.specs.List.{FoldsTo, zip}
use Rattle.std.proofs.lemmas.List.{take_more_set, drop-set-lt, drop-drop, get_or-drop, map-append, length-set, take_all, take-append-drop, drop_more}
use Rattle.vortex_compute.specs.InOrder.{InOrder, MayRun, MapsInOrder, TriesInOrder, FailsInOrder}
use Rattle.vortex_compute.specs.Groups.{InPlace, TriedInPlace, TriedSoFar}
use Rattle.vortex_compute.proofs.MapSteps.{lanes_more, take-add}

-- calls one after the other, in two parts
FoldsTo-append : {P A : Type 0} (R : P → A → P → Type 0) (p : P) (xs ys : List A) (q r : P) → FoldsTo R p xs q → FoldsTo R q ys r → FoldsTo R p (xs ++ ys) r
FoldsTo-append R p [] ys q r h k = rw h k
FoldsTo-append R p (x ∷ xs) ys q r h k = (h.0, h.1, FoldsTo-append R h.0 xs ys q r h.2 k)

-- pairs of two lists, part by part
zip-append : {A B : Type 0} (xs xs' : List A) (ys ys' : List B) → length ys ≡ length xs → zip (xs ++ xs') (ys ++ ys') ≡ zip xs ys ++ zip xs' ys'
zip-append [] xs' [] ys' e = refl
zip-append [] xs' (y ∷ ys) ys' e = absurd (omega (arith, e))
zip-append (x ∷ xs) xs' [] ys' e = absurd (omega (arith, e))
zip-append (x ∷ xs) xs' (y ∷ ys) ys' e = ap (λ zs. (x, y) ∷ zs) (zip-append xs xs' ys ys' (omega (arith, e)))

-- answers to lanes and then to further lanes are answers to both, in order
pub order_append : {F X R : Type 0} (step : F → X → R → F → Type 0) (first middle last : F) (xs ys : List X) (us vs : List R) → InOrder step first xs us middle → InOrder step middle ys vs last → InOrder step first (xs ++ ys) (us ++ vs) last
order_append step first middle last xs ys us vs h k = record {
  long = omega (arith, length-append us vs, length-append xs ys, h.long, k.long);
  calls = rw (zip-append xs ys us vs h.long) (FoldsTo-append _ first (zip xs us) (zip ys vs) middle last h.calls k.calls);
}

-- one more call
pub order_more : {F X R : Type 0} (step : F → X → R → F → Type 0) (first middle last : F) (xs : List X) (us : List R) (x : X) (a : R) → InOrder step first xs us middle → step middle x a last → InOrder step first (xs ++ x ∷ []) (us ++ a ∷ []) last
order_more step first middle last xs us x a h here = order_append step first middle last xs (x ∷ []) us (a ∷ []) h (record { long = refl; calls = (last, here, refl) })

-- what is left one place further on
drop_on : {X : Type 0} (xs ys : List X) (n : ℕ) → drop n xs ≡ drop n ys → drop (n + 1) xs ≡ drop (n + 1) ys
drop_on xs ys n e = sym (drop-drop 1 n xs) ∙ ap (drop 1) e ∙ drop-drop 1 n ys

-- lists that agree from a place on agree at that place
same_rest : {X : Type 0} (xs ys : List X) (n : ℕ) (d : X) → drop n xs ≡ drop n ys → get_or xs n d ≡ get_or ys n d
same_rest xs ys n d e =
    let at : n + 0 ≡ n = omega arith in
    ap (λ k. get_or xs k d) (sym at) ∙ sym (get_or-drop n xs 0 d) ∙ ap (λ zs. get_or zs 0 d) e ∙ get_or-drop n ys 0 d ∙ ap (λ k. get_or ys k d) at

-- no lane yet
pub in_place_none : {F X A : Type 0} (step : F → X → A → F → Type 0) (first : F) (back : A → X) (start : ℕ) (old : List X) → InPlace step first back start 0 old old first
in_place_none step first back start old =
    let at : start + 0 ≡ start = omega arith in
    record {
      answers = [];
      each = record { long = refl; calls = refl };
      written = ap (λ k. take k old) at ∙ sym (append-nil (take start old));
      rest = refl;
      long = refl;
    }

-- one more lane replaced where it stands
pub in_place_more : {F X A : Type 0} (step : F → X → A → F → Type 0) (first middle last : F) (back : A → X) (start i : ℕ) (old now new : List X) (x : X) (a : A) → start + i < length old → x ≡ get_or now (start + i) x → step middle x a last → new ≡ set now (start + i) (back a) → InPlace step first back start i old now middle → InPlace step first back start (i + 1) old new last
in_place_more step first middle last back start i old now new x a within read here is h =
    let on : start + (i + 1) ≡ start + i + 1 = omega arith in
    let inside : i < length (drop start old) = omega (arith, length-drop start old) in
    let room : start + i < length now = omega (arith, h.long, within) in
    let unread : get_or now (start + i) x ≡ get_or old (start + i) x = same_rest now old (start + i) x h.rest in
    let read_here : x ≡ get_or (drop start old) i x = read ∙ unread ∙ sym (get_or-drop start old i x) in
    record {
      answers = h.answers ++ a ∷ [];
      each = rw (lanes_more (drop start old) i x inside read_here) (order_more step first middle last (take i (drop start old)) h.answers x a h.each here);
      written =
          ap (take (start + (i + 1))) is
          ∙ ap (λ k. take k (set now (start + i) (back a))) on
          ∙ take_more_set now (start + i) (back a) room
          ∙ ap (λ ys. ys ++ back a ∷ []) h.written
          ∙ append_assoc (take start old) (map back h.answers) (back a ∷ [])
          ∙ ap (λ ys. take start old ++ ys) (sym (map-append back h.answers (a ∷ [])));
      rest =
          ap (drop (start + (i + 1))) is
          ∙ ap (λ k. drop k (set now (start + i) (back a))) on
          ∙ drop-set-lt (start + i + 1) now (start + i) (back a) (omega arith)
          ∙ drop_on now old (start + i) h.rest
          ∙ ap (λ k. drop k old) (sym on);
      long = ap length is ∙ length-set now (start + i) (back a) ∙ h.long;
    }

-- after calls that were made the closure may be called on the lanes that are left
run_on : {F X R : Type 0} (pre : F → X → Type 0) (step : F → X → R → F → Type 0) (first last : F) (xs ys : List X) (answers : List R) → length answers ≡ length xs → FoldsTo (λ f call g. step f call.0 call.1 g) first (zip xs answers) last → MayRun pre step first (xs ++ ys) → MayRun pre step last ys
run_on pre step first last [] ys [] e calls may = rw calls at may
run_on pre step first last [] ys (a ∷ bs) e calls may = absurd (omega (arith, e))
run_on pre step first last (x ∷ xs) ys [] e calls may = absurd (omega (arith, e))
run_on pre step first last (x ∷ xs) ys (a ∷ bs) e calls may = run_on pre step calls.0 last xs ys bs (omega (arith, e)) calls.2 (may.1 a calls.0 calls.1)

-- a closure that may be called on the lanes from start on may be called on those that were not replaced yet
runs_on : {F X A : Type 0} (pre : F → X → Type 0) (step : F → X → A → F → Type 0) (first last : F) (back : A → X) (start i : ℕ) (old now : List X) → InPlace step first back start i old now last → MayRun pre step first (drop start old) → MayRun pre step last (drop i (drop start old))
runs_on pre step first last back start i old now h may =
    run_on pre step first last (take i (drop start old)) (drop i (drop start old)) h.answers h.each.long h.each.calls (rw (take-append-drop i (drop start old)) may)

-- and so on the next of them
pub may_ask : {F X A : Type 0} (pre : F → X → Type 0) (step : F → X → A → F → Type 0) (first middle : F) (back : A → X) (start i : ℕ) (old now : List X) (x : X) → start + i < length old → x ≡ get_or now (start + i) x → InPlace step first back start i old now middle → MayRun pre step first (drop start old) → pre middle x
may_ask pre step first middle back start i old now x within read h may =
    let inside : i < length (drop start old) = omega (arith, length-drop start old) in
    let read_here : x ≡ get_or (drop start old) i x = read ∙ same_rest now old (start + i) x h.rest ∙ sym (get_or-drop start old i x) in
    let left : MayRun pre step middle (x ∷ drop (i + 1) (drop start old)) = rw (drop_more (drop start old) i x inside, sym read_here) at (runs_on pre step first middle back start i old now h may) in
    left.0

-- a closure that may be called on all lanes may be called on those of the groups that are left
pub may_go_on : {F X W : Type 0} (pre : F → X → Type 0) (step : F → X → Option W → F → Type 0) (first last : F) (back : Option W → X) (count : ℕ) (mask : List Bool) (old now : List X) → TriedSoFar step first back count mask old now last → MayRun pre step first old → MayRun pre step last (drop count now)
may_go_on pre step first last back count mask old now h may =
    rw h.rest (run_on pre step first last (take count old) (drop count old) h.answers h.each.long h.each.calls (rw (take-append-drop count old) may))

-- all lanes replaced
pub in_place_whole : {F X W : Type 0} (step : F → X → W → F → Type 0) (first last : F) (back : W → X) (n : ℕ) (old new : List X) → length old ≤ n → InPlace step first back 0 n old new last → MapsInOrder step first back old new
in_place_whole step first last back n old new all h =
    let at : 0 + n ≡ n = omega arith in
    record {
      answers = h.answers;
      last = last;
      each = rw (take_all n old all) at h.each;
      written = sym (take_all (0 + n) new (omega (arith, h.long, all))) ∙ h.written;
    }

-- one more lane, with the word of the answers that are none
pub tried_more : {F X W : Type 0} (step : F → X → Option W → F → Type 0) (first middle last : F) (reads_back : W → X) (d : W) (start i word : ℕ) (old now new : List X) (x : X) (o : Option W) (v : W) (b : Bool) → v ≡ unwrap_or o d → is_some o ≡ not b → i < 64 → start + i < length old → x ≡ get_or now (start + i) x → step middle x o last → new ≡ set now (start + i) (reads_back v) → TriedInPlace step first (λ o. reads_back (unwrap_or o d)) start i old now middle word → TriedInPlace step first (λ o. reads_back (unwrap_or o d)) start (i + 1) old new last (bit_or word (bool_byte b * 2 ^ i % 2 ^ 64))
unfolding in_place_more
tried_more step first middle last reads_back d start i word old now new x o v b value none small within read here is h =
    let long : length h.lanes.answers ≡ i = h.lanes.each.long ∙ omega (arith, length-take i (drop start old), length-drop start old, within) in
    let n : length (map is_none h.lanes.answers) ≡ i = length-map h.lanes.answers is_none ∙ long in
    record {
      lanes = in_place_more step first middle last (λ o. reads_back (unwrap_or o d)) start i old now new x o within read here (is ∙ ap (λ w. set now (start + i) (reads_back w)) value) h.lanes;
      none_is = rw (none_from_some o b none) (push_word (map is_none h.lanes.answers) (is_none o) word i small n h.none_is ∙ ap mask_l (sym (map-append is_none h.lanes.answers (o ∷ []))));
    }

-- no lane of a group yet
pub tried_start : {F X W : Type 0} (step : F → X → Option W → F → Type 0) (first : F) (back : Option W → X) (start : ℕ) (old : List X) → TriedInPlace step first back start 0 old old first 0
unfolding in_place_none
tried_start step first back start old = record { lanes = in_place_none step first back start old; none_is = refl }

-- no group yet
pub tried_none : {F X W : Type 0} (step : F → X → Option W → F → Type 0) (first : F) (back : Option W → X) (mask : List Bool) (old : List X) → TriedSoFar step first back (64 * 0) mask old old first
tried_none step first back mask old = record {
  answers = [];
  each = record { long = refl; calls = refl };
  passes = λ i l. absurd (omega arith);
  written = refl;
  rest = refl;
  long = refl;
}

-- a group's answers are as many as its lanes
group_answers : {F X W : Type 0} (step : F → X → Option W → F → Type 0) (first last : F) (back : Option W → X) (start count word : ℕ) (old new : List X) → start + count ≤ length old → (w : TriedInPlace step first back start count old new last word) → length w.lanes.answers ≡ count
group_answers step first last back start count word old new inside w = w.lanes.each.long ∙ omega (arith, length-take count (drop start old), length-drop start old, inside)

-- one more group without a failure
pub tried_group_more : {F X W : Type 0} (step : F → X → Option W → F → Type 0) (first middle last : F) (back : Option W → X) (mask : List Bool) (k m j word : ℕ) (old now new : List X) → m ≤ 64 → j ≡ 64 * k + m → j ≤ length old → TriedSoFar step first back (64 * k) mask old now middle → TriedInPlace step middle back (64 * k) m now new last word → bit_and word (word_of mask k) ≡ 0 → TriedSoFar step first back j mask old new last
tried_group_more step first middle last back mask k m j word old now new small end inside h w none =
    let within : 64 * k + m ≤ length now = omega (arith, h.long, end, inside) in
    let more : length w.lanes.answers ≡ m = group_answers step middle last back (64 * k) m word now new within w in
    let long : length h.answers ≡ 64 * k = h.each.long ∙ omega (arith, length-take (64 * k) old, end, inside) in
    let same : take m (drop (64 * k) now) ≡ take m (drop (64 * k) old) = ap (take m) h.rest in
    record {
      answers = h.answers ++ w.lanes.answers;
      each = rw (end, take-add (64 * k) m old) (order_append step first middle last (take (64 * k) old) (take m (drop (64 * k) old)) h.answers w.lanes.answers h.each (rw same at w.lanes.each));
      passes = λ i l. passes_on mask h.answers w.lanes.answers k word i long (rw more small) w.none_is none h.passes (omega (arith, more, end, l));
      written = ap (λ n. take n new) end ∙ w.lanes.written ∙ ap (λ ys. ys ++ map back w.lanes.answers) h.written ∙ sym (map-append back h.answers w.lanes.answers);
      rest = ap (λ n. drop n new) end ∙ w.lanes.rest ∙ sym (drop-drop m (64 * k) now) ∙ ap (drop m) h.rest ∙ drop-drop m (64 * k) old ∙ ap (λ n. drop n old) (sym end);
      long = w.lanes.long ∙ h.long;
    }

-- a valid lane of the group failed
pub tried_fails : {F X W : Type 0} (step : F → X → Option W → F → Type 0) (first middle last : F) (back : Option W → X) (mask : List Bool) (k m word : ℕ) (old now new : List X) → m ≤ 64 → 64 * k + m ≡ min (length old) (64 * k + 64) → TriedSoFar step first back (64 * k) mask old now middle → TriedInPlace step middle back (64 * k) m now new last word → (bit_and word (word_of mask k) ≡ 0 → ⊥) → FailsInOrder step first old mask (64 * k + trailing_zeros w64 (bit_and word (word_of mask k)))
tried_fails step first middle last back mask k m word old now new small stops h w some =
    let valid = bit_and word (word_of mask k) in
    let tz = trailing_zeros w64 valid in
    let inside : 64 * k + m ≤ length old = omega (arith, stops) in
    let within : 64 * k + m ≤ length now = omega (arith, h.long, inside) in
    let more : length w.lanes.answers ≡ m = group_answers step middle last back (64 * k) m word now new within w in
    let long : length h.answers ≡ 64 * k = h.each.long ∙ omega (arith, length-take (64 * k) old, inside) in
    let both : length (h.answers ++ w.lanes.answers) ≡ 64 * k + m = omega (arith, length-append h.answers w.lanes.answers, long, more) in
    let same : take m (drop (64 * k) now) ≡ take m (drop (64 * k) old) = ap (take m) h.rest in
    let fits : valid < 2 ^ 64 = fits_masked word mask k in
    let low = bit_at-trailing_zeros w64 valid (omega (arith, some)) fits in
    let tz_in : tz < length w.lanes.answers = masked_within mask w.lanes.answers k word tz w.none_is low.1 in
    record {
      answers = h.answers ++ w.lanes.answers;
      last = last;
      each = rw (both, take-add (64 * k) m old) (order_append step first middle last (take (64 * k) old) (take m (drop (64 * k) old)) h.answers w.lanes.answers h.each (rw same at w.lanes.each));
      asked = omega (arith, both, stops, low.0);
      within = omega (arith, inside, tz_in, more);
      fails = fails_right mask h.answers w.lanes.answers k tz long ∙ bit_some _ (sym (masked_at mask w.lanes.answers k word tz low.0 tz_in w.none_is) ∙ low.1);
      before = λ j l. before_fails mask h.answers w.lanes.answers k word tz j long w.none_is low.0 tz_in h.passes low.2 l;
    }

-- all groups without a failure
pub tried_whole : {F X W : Type 0} (step : F → X → Option W → F → Type 0) (first last : F) (reads_back : W → X) (d : W) (n : ℕ) (mask : List Bool) (old new : List X) → length old ≡ n → TriedSoFar step first (λ o. reads_back (unwrap_or o d)) n mask old new last → TriesInOrder step first reads_back d old mask new
tried_whole step first last reads_back d n mask old new all h = record {
  answers = h.answers;
  last = last;
  each = rw (take_all n old (omega (arith, all))) at h.each;
  passes = λ i l. h.passes i (omega (arith, all, l));
  written = sym (take_all n new (omega (arith, h.long, all))) ∙ h.written;
}

-- calls whose answers are values, as calls that give those values
given_calls : {F X W : Type 0} (step : F → X → Option W → F → Type 0) (d : W) (first last : F) (lanes : List X) (answers : List (Option W)) → length answers ≡ length lanes → FoldsTo (λ f call g. step f call.0 call.1 g) first (zip lanes answers) last → ((i : ℕ) → i < length lanes → is_none (get_or answers i None) ≡ false) → FoldsTo (λ f call g. step f call.0 (Some call.1) g) first (zip lanes (map (λ o. unwrap_or o d) answers)) last
given_calls step d first last [] [] e calls h = calls
given_calls step d first last [] (o ∷ os) e calls h = absurd (omega (arith, e))
given_calls step d first last (x ∷ xs) [] e calls h = absurd (omega (arith, e))
given_calls step d first last (x ∷ xs) (None ∷ os) e calls h = absurd (clash (h 0 (omega arith)))
given_calls step d first last (x ∷ xs) (Some v ∷ os) e calls h = (calls.0, calls.1, given_calls step d calls.0 last xs os (omega (arith, e)) calls.2 (λ i l. h (suc i) (omega (arith, l))))

-- where every lane is valid and none fails, each lane was replaced by its value
pub in_place_given : {F X W : Type 0} (step : F → X → Option W → F → Type 0) (first : F) (reads_back : W → X) (d : W) (old new : List X) → TriesInOrder step first reads_back d old (all_valid old) new → MapsInOrder (λ f x v g. step f x (Some v) g) first reads_back old new
in_place_given step first reads_back d old new h = record {
  answers = map (λ o. unwrap_or o d) h.answers;
  last = h.last;
  each = record {
    long = length-map h.answers (λ o. unwrap_or o d) ∙ h.each.long;
    calls = given_calls step d first h.last old h.answers h.each.long h.each.calls (λ i l. ap (λ b. b && is_none (get_or h.answers i None)) (sym (get_or-replicate (length old) i true false l)) ∙ h.passes i l);
  };
  written = h.written ∙ sym (map-map reads_back (λ o. unwrap_or o d) h.answers);
}

-- one more group without a failure, where every lane is valid
pub tried_group_more_all : {F X W : Type 0} (step : F → X → Option W → F → Type 0) (first middle last : F) (back : Option W → X) (k m j word : ℕ) (old now new : List X) → m ≤ 64 → j ≡ 64 * k + m → j ≤ length old → TriedSoFar step first back (64 * k) (all_valid old) old now middle → TriedInPlace step middle back (64 * k) m now new last word → word ≡ 0 → TriedSoFar step first back j (all_valid old) old new last
tried_group_more_all step first middle last back k m j word old now new small end inside h w none =
    let within : 64 * k + m ≤ length now = omega (arith, h.long, end, inside) in
    let here : 64 * k + m ≤ length old = omega (arith, end, inside) in
    tried_group_more step first middle last back (all_valid old) k m j word old now new small end inside h w
    (all_failures (length old) k m word w.lanes.answers (group_answers step middle last back (64 * k) m word now new within w) small here w.none_is ∙ none)

-- a lane of the group failed, where every lane is valid
pub tried_fails_all : {F X W : Type 0} (step : F → X → Option W → F → Type 0) (first middle last : F) (back : Option W → X) (k m word : ℕ) (old now new : List X) → m ≤ 64 → 64 * k + m ≡ min (length old) (64 * k + 64) → TriedSoFar step first back (64 * k) (all_valid old) old now middle → TriedInPlace step middle back (64 * k) m now new last word → (word ≡ 0 → ⊥) → FailsInOrder step first old (all_valid old) (64 * k + trailing_zeros w64 word)
tried_fails_all step first middle last back k m word old now new small stops h w some =
    let here : 64 * k + m ≤ length old = omega (arith, stops) in
    let within : 64 * k + m ≤ length now = omega (arith, h.long, here) in
    let same = all_failures (length old) k m word w.lanes.answers (group_answers step middle last back (64 * k) m word now new within w) small here w.none_is in
    rw same at (tried_fails step first middle last back (all_valid old) k m word old now new small stops h w (λ e. some (sym same ∙ e)))
