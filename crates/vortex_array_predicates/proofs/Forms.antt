-- Patterns that ask for a text alone, or for how one begins or ends.
use Rattle.std.proofs.Common.{◌≡◌, ◌∙◌, sym, refl, ap, ℕ, ◌+◌, ◌-◌, ◌<◌, List, [], ◌∷◌, ◌++◌, Bool, true, false, ◌||◌, ◌&&◌, length, get_or, take, drop, chars, arith, IsUtf8, drop-cons, subst, zero, suc, ◌==◌, rules}
use Rattle.std.specs.Prelude.{nat_eq, not, if◌then◌else◌}
use Rattle.std.specs.Str.{IsAscii, IsCharBoundary}
use Rattle.std.specs.Cmp.Lexicographic.{pointwise, bytes_decides, same_text}
use Rattle.std.proofs.Math.Utf8.{encodes}
use Rattle.std.proofs.Math.Seq.{drop-length, take-append_seam}
use Rattle.std.proofs.lemmas.Bool.Decides.{Decides-eqb}
use Rattle.std.proofs.lemmas.Str.{chars-append, chars-IsAscii, encodes-chars, encodes-append, IsCharBoundary-at_seam, IsCharBoundary-after_ascii, IsCharBoundary-before_ascii, IsUtf8-from_ascii, IsUtf8-take}
use Rattle.std.proofs.lemmas.List.{take-append-drop, drop_at, length-append, length-take-le}
use Rattle.vortex_array_types.specs.Matches.{matches, matches_chars, some_suffix}
use Rattle.vortex_array_predicates.specs.Forms.{plain, plain_end, plain_front}
use Rattle.vortex_array_predicates.proofs.Suffixes.{later, same, suffix-end, suffix-same, suffix-whole}

-- of a character that stands for itself the last case is taken
last-case : (a b c x y z w : Bool) → not (a || (b || c)) ≡ true → (if a then x else if b then y else if c then z else w) ≡ w
last-case true b c x y z w e = cc
last-case false true c x y z w e = cc
last-case false false true x y z w e = cc
last-case false false false x y z w e = refl

both-hold : (a b : Bool) → (a && b) ≡ true → (a ≡ true) × (b ≡ true)
both-hold true b e = (refl, e)
both-hold false b e = cc

-- such a pattern is matched by itself alone
pub plain-matches : (pattern text : List ℕ) → plain pattern ≡ true → matches_chars pattern text ≡ pointwise nat_eq text pattern
plain-matches [] [] e = refl
plain-matches [] (c ∷ text) e = refl
plain-matches (p ∷ pattern) [] e =
    last-case (nat_eq p 37) (nat_eq p 95) (nat_eq p 92) _ _ _ _ (both-hold (not (nat_eq p 37 || (nat_eq p 95 || nat_eq p 92))) (plain pattern) e).0
plain-matches (p ∷ pattern) (c ∷ text) e =
    let both = both-hold (not (nat_eq p 37 || (nat_eq p 95 || nat_eq p 92))) (plain pattern) e in
    last-case (nat_eq p 37) (nat_eq p 95) (nat_eq p 92) _ _ _ _ both.0 ∙ ap (λ b. nat_eq c p && b) (plain-matches pattern text both.1)

-- and before a `%` by what begins with it
front-matches : (front text : List ℕ) → plain front ≡ true → pointwise nat_eq (take (length front) text) front ≡ matches_chars (front ++ 37 ∷ []) text
front-matches [] text e = sym (suffix-end text)
front-matches (p ∷ front) [] e =
    sym (last-case (nat_eq p 37) (nat_eq p 95) (nat_eq p 92) _ _ _ _ (both-hold (not (nat_eq p 37 || (nat_eq p 95 || nat_eq p 92))) (plain front) e).0)
front-matches (p ∷ front) (c ∷ text) e =
    let both = both-hold (not (nat_eq p 37 || (nat_eq p 95 || nat_eq p 92))) (plain front) e in
    ap (λ b. nat_eq c p && b) (front-matches front text both.1) ∙ sym (last-case (nat_eq p 37) (nat_eq p 95) (nat_eq p 92) _ _ _ _ both.0)

-- texts are compared by their bytes as by their characters
same-text : (xs ys : List ℕ) → IsUtf8 xs → IsUtf8 ys → pointwise nat_eq xs ys ≡ pointwise nat_eq (chars xs) (chars ys)
same-text xs ys u v =
    same (pointwise nat_eq xs ys) (pointwise nat_eq (chars xs) (chars ys)) (λ k. (bytes_decides (chars xs) (chars ys)).1 (ap chars ((bytes_decides xs ys).0 k)))
    (λ k. (bytes_decides xs ys).1 (sym (encodes-chars xs u) ∙ ap encodes ((bytes_decides (chars xs) (chars ys)).0 k) ∙ encodes-chars ys v))

pub whole-matches : (pattern text : List ℕ) → IsUtf8 pattern → IsUtf8 text → plain (chars pattern) ≡ true → pointwise nat_eq text pattern ≡ matches pattern text
whole-matches pattern text u v e = same-text text pattern v u ∙ sym (plain-matches (chars pattern) (chars text) e)

-- a text begins with another by its bytes as by its characters
same-front : (front text : List ℕ) → IsUtf8 front → IsUtf8 text → pointwise nat_eq (take (length front) text) front ≡ pointwise nat_eq (take (length (chars front)) (chars text)) (chars front)
same-front front text u v =
    let n = length front in
    let m = length (chars front) in
    same (pointwise nat_eq (take n text) front) (pointwise nat_eq (take m (chars text)) (chars front))
    (λ k.
    let spelled : text ≡ front ++ drop n text = sym (take-append-drop n text) ∙ ap (λ z. z ++ drop n text) ((bytes_decides (take n text) front).0 k) in
    (bytes_decides (take m (chars text)) (chars front)).1 (ap (take m) (ap chars spelled ∙ chars-append front (drop n text) u) ∙ take-append_seam (chars front) (chars (drop n text))))
    (λ k.
    let spelled : chars text ≡ chars front ++ drop m (chars text) = sym (take-append-drop m (chars text)) ∙ ap (λ z. z ++ drop m (chars text)) ((bytes_decides (take m (chars text)) (chars front)).0 k) in
    let written : text ≡ front ++ encodes (drop m (chars text)) = sym (encodes-chars text v) ∙ ap encodes spelled ∙ encodes-append (chars front) (drop m (chars text)) ∙ ap (λ z. z ++ encodes (drop m (chars text))) (encodes-chars front u) in
    (bytes_decides (take n text) front).1 (ap (take n) written ∙ take-append_seam front (encodes (drop m (chars text)))))

-- a pattern that ends with a `%` in its bytes
seam : (pattern : List ℕ) → get_or pattern (length pattern - 1) 0 ≡ 37 → pattern ≡ take (length pattern - 1) pattern ++ 37 ∷ []
seam [] e = absurd (omega (arith, e))
seam (c ∷ rest) e =
    let pattern = c ∷ rest in
    let n = length pattern - 1 in
    let n' : suc n ≡ length pattern = omega arith in
    sym (take-append-drop n pattern) ∙ ap (λ z. take n pattern ++ z) (drop-cons pattern n 0 (omega (arith, n')) ∙ ap (λ d. d ∷ drop (suc n) pattern) e ∙ ap (λ z. 37 ∷ z) (ap (λ k. drop k pattern) n' ∙ drop-length pattern))

ascii : IsAscii (37 ∷ [])
ascii = search rules

inside : (pattern : List ℕ) (i : ℕ) → get_or pattern i 0 ≡ 37 → i < length pattern
inside [] i e = absurd (omega (arith, e))
inside (c ∷ pattern) zero e = omega arith
inside (c ∷ pattern) (suc i) e = omega (arith, inside pattern i e)

-- a pattern that is plain before a `%` at its end
pub front-run : (pattern text : List ℕ) → IsUtf8 pattern → IsUtf8 text → plain_front pattern ≡ true
    → pointwise nat_eq (take (length (take (length pattern - 1) pattern)) text) (take (length pattern - 1) pattern) ≡ matches pattern text
front-run pattern text u v h =
    let n = length pattern - 1 in
    let front = take n pattern in
    let both = both-hold (get_or pattern n 0 == 37) (plain (chars front)) h in
    let run : get_or pattern n 0 ≡ 37 = (Decides-eqb (get_or pattern n 0) 37).0 both.0 in
    let w : IsUtf8 front = IsUtf8-take pattern n u (IsCharBoundary-before_ascii pattern n (inside pattern n run) (omega (arith, run))) in
    let spelled : chars pattern ≡ chars front ++ 37 ∷ [] = ap chars (seam pattern run) ∙ chars-append front (37 ∷ []) w ∙ ap (λ z. chars front ++ z) (chars-IsAscii (37 ∷ []) ascii) in
    same-front front text w v ∙ front-matches (chars front) (chars text) both.1 ∙ ap (λ z. matches_chars z (chars text)) (sym spelled)

-- what ends a text is one of its suffixes
suffix-append : (f : List ℕ → Bool) (xs ys : List ℕ) → f ys ≡ true → some_suffix f (xs ++ ys) ≡ true
suffix-append f [] ys e = suffix-whole f ys e
suffix-append f (x ∷ xs) ys e = later (f (x ∷ (xs ++ ys))) (some_suffix f (xs ++ ys)) (suffix-append f xs ys e)

-- a suffix that is a text ends it
suffix-split : (end text : List ℕ) → some_suffix (λ t. pointwise nat_eq t end) text ≡ true → (front : List ℕ) × (text ≡ front ++ end)
suffix-split end [] e = ([], same_text [] end (sym e))
suffix-split end (c ∷ text) e = told (pointwise nat_eq (c ∷ text) end) refl (λ k. suffix-split end text k)
  where
    told : (b : Bool) → pointwise nat_eq (c ∷ text) end ≡ b → (some_suffix (λ t. pointwise nat_eq t end) text ≡ true → (front : List ℕ) × (text ≡ front ++ end)) → (front : List ℕ) × ((c ∷ text) ≡ front ++ end)
    told true k rest = ([], same_text (c ∷ text) end (sym k))
    told false k rest =
        let r = rest (ap (λ b. b || some_suffix (λ t. pointwise nat_eq t end) text) (sym k) ∙ e) in
        (c ∷ r.0, ap (λ t. c ∷ t) r.1)

-- some suffix of the characters is those of the other text
abbrev pub ends-with : List ℕ → List ℕ → Bool
ends-with text end = some_suffix (λ t. pointwise nat_eq t (chars end)) (chars text)

ends-front : (text end : List ℕ) → IsUtf8 text → IsUtf8 end → ends-with text end ≡ true → (front : List ℕ) × (text ≡ front ++ end)
ends-front text end u v e =
    let s = suffix-split (chars end) (chars text) e in
    (encodes s.0, sym (encodes-chars text u) ∙ ap encodes s.1 ∙ encodes-append s.0 (chars end) ∙ ap (λ z. encodes s.0 ++ z) (encodes-chars end v))

-- a longer text does not end one
pub ends-longer : (text end : List ℕ) → IsUtf8 text → IsUtf8 end → length text < length end → false ≡ ends-with text end
ends-longer text end u v l =
    same false (ends-with text end) (λ k. cc) (λ k. let s = ends-front text end u v k in absurd (omega (arith, l, ap length s.1, length-append s.0 end)))

-- the bytes behind the place where it would begin tell
pub ends-same : (text end : List ℕ) (start : ℕ) → IsUtf8 text → IsUtf8 end → start + length end ≡ length text → pointwise nat_eq (drop start text) end ≡ ends-with text end
ends-same text end start u v l =
    let front = take start text in
    let long : length front ≡ start = length-take-le start text (omega (arith, l)) in
    same (pointwise nat_eq (drop start text) end) (ends-with text end)
    (λ k.
    let spelled : text ≡ front ++ end = sym (take-append-drop start text) ∙ ap (λ z. front ++ z) ((bytes_decides (drop start text) end).0 k) in
    let cut : IsCharBoundary text start = subst (IsCharBoundary text) long (IsCharBoundary-at_seam text front end spelled v) in
    let whole : chars text ≡ chars front ++ chars end = ap chars spelled ∙ chars-append front end (IsUtf8-take text start u cut) in
    rw whole (suffix-append (λ t. pointwise nat_eq t (chars end)) (chars front) (chars end) ((bytes_decides (chars end) (chars end)).1 refl)))
    (λ k. let s = ends-front text end u v k in (bytes_decides (drop start text) end).1 (ap (drop start) s.1 ∙ drop_at s.0 end start (omega (arith, l, ap length s.1, length-append s.0 end))))

first-run : (pattern : List ℕ) → get_or pattern 0 0 ≡ 37 → pattern ≡ (37 ∷ []) ++ drop 1 pattern
first-run [] e = absurd (omega (arith, e))
first-run (c ∷ pattern) e = ap (λ d. d ∷ pattern) e

-- behind a first `%` a pattern may be cut
pub behind-run : (pattern : List ℕ) → IsUtf8 pattern → (get_or pattern 0 0 == 37) ≡ true → IsCharBoundary pattern 1
behind-run pattern u h = let run : get_or pattern 0 0 ≡ 37 = (Decides-eqb (get_or pattern 0 0) 37).0 h in IsCharBoundary-after_ascii pattern 0 u (inside pattern 0 run) (omega (arith, run))

-- a pattern that is plain behind a first `%`
pub run-end : (pattern text : List ℕ) → plain_end pattern ≡ true → ends-with text (drop 1 pattern) ≡ matches pattern text
run-end pattern text h =
    let end = chars (drop 1 pattern) in
    let both = both-hold (get_or pattern 0 0 == 37) (plain end) h in
    let spelled : chars pattern ≡ 37 ∷ end =
    ap chars (first-run pattern ((Decides-eqb (get_or pattern 0 0) 37).0 both.0)) ∙ chars-append (37 ∷ []) (drop 1 pattern) (IsUtf8-from_ascii (37 ∷ []) ascii) ∙ ap (λ z. z ++ end) (chars-IsAscii (37 ∷ []) ascii) in
    suffix-same (λ t. pointwise nat_eq t end) (matches_chars end) (λ t. sym (plain-matches end t both.1)) (chars text) ∙ ap (λ z. matches_chars z (chars text)) (sym spelled)

-- what a form tells of its pattern's first byte
pub told-run : (pattern : List ℕ) → plain_end pattern ≡ true → (get_or pattern 0 0 == 37) ≡ true
told-run pattern h = (both-hold (get_or pattern 0 0 == 37) (plain (chars (drop 1 pattern))) h).0
