use Rattle.std.proofs.Common.{ℕ, suc, ◌+◌, ◌*◌, ◌%◌, ◌^◌, ◌<◌, ◌≤◌, ◌≡◌, Bool, true, false, cond, List, [], ◌∷◌, ◌++◌, length, get_or, take, drop, set, map, refl, sym, ap, ◌∙◌, arith, length-take, length-drop, length-append, append_assoc, append-nil, drop-cons}
use Rattle.std.specs.Int.RustNames.{bit_or}
use Rattle.std.specs.List.{AllZip, All}
use Rattle.std.specs.Simd.Lanes.{mask_l}
use Rattle.std.specs.Int.Bits.{or_shifted_r}
use Rattle.std.proofs.lemmas.Nat.{shl_whole}
use Rattle.std.proofs.lemmas.Simd.{mask_l-lt}
use Rattle.std.proofs.lemmas.Slice.Zip.{all_zipped_more, AllZip-long}
use Rattle.std.proofs.lemmas.List.{drop_all, take_more}
use Rattle.std.proofs.lemmas.List.Elements.{All-head, All-tail}
use Rattle.std.proofs.Math.Seq.{set-append_seam}
use mir.Val.{bool_byte}
use Rattle.vortex_buffer.specs.Bits.{words_of, words_for, bits_of, packed_over}
use Rattle.vortex_buffer.proofs.WordLaws.{length-words_of, words_of-append, words_of-one, bits_of-words_of}
use Rattle.vortex_compute.specs.Answers.{MapsBits}
use Rattle.vortex_compute.specs.Groups.{PackedGroup}
use Rattle.vortex_compute.proofs.MapSteps.{take-add, AllZip-append}

-- one more power of two
pow-suc_two : (n : ℕ) → 2 ^ suc n ≡ 2 * 2 ^ n
pow-suc_two n = grind arith

-- one more bit at the end of a word
pub mask_l-push : (ms : List Bool) (b : Bool) → mask_l (ms ++ b ∷ []) ≡ cond b 1 0 * 2 ^ length ms + mask_l ms
mask_l-push [] true = refl
mask_l-push [] false = refl
mask_l-push (m ∷ ms) true = let h = mask_l-push ms true in rw pow-suc_two (omega (arith, h))
mask_l-push (m ∷ ms) false = let h = mask_l-push ms false in omega (arith, h)

-- a truth as a byte
byte_is : (b : Bool) → bool_byte b ≡ cond b 1 0
byte_is true = refl
byte_is false = refl

-- a truth as a number has one bit
bit_word : (b : Bool) → cond b 1 0 < 2 ^ 1
bit_word true = omega arith
bit_word false = omega arith

-- one more bit of a word
pub push_word : (ms : List Bool) (b : Bool) (word i : ℕ) → i < 64 → length ms ≡ i → word ≡ mask_l ms → bit_or word (bool_byte b * 2 ^ i % 2 ^ 64) ≡ mask_l (ms ++ b ∷ [])
push_word ms b word i small long is =
    let below : word < 2 ^ i = rw (is, ← long) (mask_l-lt ms) in
    ap (λ v. bit_or word (v * 2 ^ i % 2 ^ 64)) (byte_is b)
    ∙ ap (bit_or word) (shl_whole (cond b 1 0) 1 i 64 (bit_word b) (omega arith))
    ∙ or_shifted_r (cond b 1 0) i word below
    ∙ rw (is, ← long) (sym (mask_l-push ms b))

-- one more lane of a group
pub answer_more : {X : Type 0} (P : X → Bool → Type 0) (lanes : List X) (i word : ℕ) (x : X) (b : Bool) → i < 64 → i < length lanes → x ≡ get_or lanes i x → PackedGroup P (take i lanes) word → P x b → PackedGroup P (take (i + 1) lanes) (bit_or word (bool_byte b * 2 ^ i % 2 ^ 64))
answer_more P lanes i word x b small within read so_far here =
    let long : length so_far.answers ≡ i = AllZip-long P (take i lanes) so_far.answers so_far.each ∙ omega (arith, length-take i lanes) in
    let lanes_is : take (i + 1) lanes ≡ take i lanes ++ x ∷ [] = take_more lanes i x within ∙ ap (λ y. take i lanes ++ y ∷ []) (sym read) in
    record {
      answers = so_far.answers ++ b ∷ [];
      each = rw lanes_is (all_zipped_more P (take i lanes) so_far.answers x b so_far.each here);
      word_is = push_word so_far.answers b word i small long so_far.word_is;
    }

-- one more group of lanes: its word is written after those of the lanes before, over what stood there
pub group_more : {X : Type 0} (P : X → Bool → Type 0) (lanes : List X) (old now : List ℕ) (n m j word : ℕ) → 0 < m → m ≤ 64 → j ≡ 64 * n + m → j ≤ length lanes → n < length old → MapsBits P (take (64 * n) lanes) old now → PackedGroup P (take m (drop (64 * n) lanes)) word → MapsBits P (take j lanes) old (set now n word)
group_more P lanes old now n m j word some small end inside within h w =
    let first : length (take (64 * n) lanes) ≡ 64 * n = omega (arith, length-take (64 * n) lanes, end, inside) in
    let long : length h.answers ≡ 64 * n = AllZip-long P (take (64 * n) lanes) h.answers h.each ∙ first in
    let more : length w.answers ≡ m = AllZip-long P (take m (drop (64 * n) lanes)) w.answers w.each ∙ omega (arith, length-take m (drop (64 * n) lanes), length-drop (64 * n) lanes, end, inside) in
    let before : words_for (length h.answers) ≡ n = omega (arith, long) in
    let after : words_for (length (h.answers ++ w.answers)) ≡ n + 1 = omega (arith, length-append h.answers w.answers, long, more, some, small) in
    let next : suc n ≡ n + 1 = omega arith in
    let words : n ≡ length (words_of h.answers) = omega (arith, length-words_of h.answers, long) in
    let rest : drop n old ≡ get_or old n 0 ∷ drop (n + 1) old = drop-cons old n 0 within ∙ ap (λ k. get_or old n 0 ∷ drop k old) next in
    record {
      answers = h.answers ++ w.answers;
      each = rw (end, take-add) (AllZip-append P (take (64 * n) lanes) (take m (drop (64 * n) lanes)) h.answers w.answers h.each w.each);
      written =
          ap (λ ws. set ws n word) (h.written ∙ ap (λ k. words_of h.answers ++ drop k old) before ∙ ap (λ ws. words_of h.answers ++ ws) rest)
          ∙ ap (λ k. set (words_of h.answers ++ get_or old n 0 ∷ drop (n + 1) old) k word) words
          ∙ set-append_seam (words_of h.answers) (get_or old n 0) (drop (n + 1) old) word
          ∙ ap (λ v. words_of h.answers ++ v ∷ drop (n + 1) old) w.word_is
          ∙ sym (append_assoc (words_of h.answers) (mask_l w.answers ∷ []) (drop (n + 1) old))
          ∙ ap (λ ws. (words_of h.answers ++ ws) ++ drop (n + 1) old) (sym (words_of-one w.answers (rw more some) (rw more small)))
          ∙ ap (λ ws. ws ++ drop (n + 1) old) (sym (words_of-append h.answers w.answers n long))
          ∙ ap (λ k. words_of (h.answers ++ w.answers) ++ drop k old) (sym after);
    }

-- no lane yet: nothing was written
pub none_packed : {X : Type 0} (P : X → Bool → Type 0) (lanes : List X) (old : List ℕ) → MapsBits P (take (64 * 0) lanes) old old
unfolding words_of
none_packed P lanes old = record { answers = []; each = tt; written = refl }

-- the bits of words that were written in a slice of just as many are the answers
pub bits_of-written : {X : Type 0} (P : X → Bool → Type 0) (lanes : List X) (n : ℕ) (old new : List ℕ) → length lanes ≡ n → length old ≡ words_for n → (h : MapsBits P lanes old new) → bits_of n new ≡ h.answers
bits_of-written P lanes n old new long room h =
    let all : length h.answers ≡ n = AllZip-long P lanes h.answers h.each ∙ long in
    ap (bits_of n) (h.written ∙ ap (λ ws. words_of h.answers ++ ws) (drop_all (words_for (length h.answers)) old (omega (arith, room, all))) ∙ append-nil (words_of h.answers))
    ∙ ap (λ k. bits_of k (words_of h.answers)) (sym all)
    ∙ bits_of-words_of h.answers

-- answers that are a function of their lanes
function_answers : {X : Type 0} (P : X → Bool → Type 0) (Q : X → Type 0) (t : X → Bool) (lanes : List X) (answers : List Bool) → ((x : X) (b : Bool) → Q x → P x b → b ≡ t x) → All Q lanes → AllZip P lanes answers → answers ≡ map t lanes
function_answers P Q t [] [] says all each = refl
function_answers P Q t [] (b ∷ bs) says all each = absurd each
function_answers P Q t (x ∷ xs) [] says all each = absurd each
function_answers P Q t (x ∷ xs) (b ∷ bs) says all each =
    ap (λ c. c ∷ bs) (says x b (All-head Q x xs all) each.0) ∙ ap (λ cs. t x ∷ cs) (function_answers P Q t xs bs says (All-tail Q x xs all) each.1)

-- where each answer is a function of its lane, the words of that function were written
pub packs_function : {X : Type 0} (P : X → Bool → Type 0) (Q : X → Type 0) (t : X → Bool) (lanes : List X) (old new : List ℕ) → ((x : X) (b : Bool) → Q x → P x b → b ≡ t x) → All Q lanes → MapsBits P lanes old new → new ≡ packed_over (map t lanes) old
packs_function P Q t lanes old new says all h = h.written ∙ ap (λ bits. packed_over bits old) (function_answers P Q t lanes h.answers says all h.each)
