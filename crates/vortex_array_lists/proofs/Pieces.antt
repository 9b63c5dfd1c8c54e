use Rattle.std.proofs.Common.{ℕ, zero, suc, ◌<◌, ◌≤◌, ◌≡◌, ◌+◌, ◌-◌, List, [], ◌∷◌, ◌++◌, length, get_or, take, drop, map, refl, sym, ap, ◌∙◌, arith, length-append, length-take, length-drop, Result, cond}
use Rattle.std.specs.Result.{is_ok, IsOk}
use Rattle.std.specs.Prelude.{slice_range}
use Rattle.std.proofs.lemmas.Simd.{map-map}
use Rattle.std.proofs.lemmas.List.{drop_at, take_all, take-append-le, drop-append-le, drop-drop, drop-take, take-take}
use Rattle.vortex_array_lists.specs.Pieces.{pieces, IsChain, start_at}

-- as many pieces as ends
pub length-pieces : (bytes : List ℕ) (s : ℕ) (es : List ℕ) → length (pieces bytes s es) ≡ length es
length-pieces bytes s [] = refl
length-pieces bytes s (e ∷ es) = ap suc (length-pieces bytes e es)

-- one piece
pub get_or-pieces : (bytes : List ℕ) (s : ℕ) (es : List ℕ) (i : ℕ) → i < length es → get_or (pieces bytes s es) i [] ≡ slice_range bytes (start_at s es i) (get_or es i 0)
get_or-pieces bytes s [] i h = absurd (omega arith)
get_or-pieces bytes s (e ∷ es) zero h = refl
get_or-pieces bytes s (e ∷ es) (suc i) h = get_or-pieces bytes e es i (omega arith)

-- one piece, by the places where it begins and ends
pub piece_between : (bytes ends : List ℕ) (i start end : ℕ) → i < length ends → start ≡ start_at 0 ends i → end ≡ get_or ends i 0 → slice_range bytes start end ≡ get_or (pieces bytes 0 ends) i []
piece_between bytes ends i start end h from to =
    ap (λ a. take (end - a) (drop a bytes)) from ∙ ap (λ b. slice_range bytes (start_at 0 ends i) b) to ∙ sym (get_or-pieces bytes 0 ends i h)

-- a chain ends no earlier than it starts
pub chain_le : (s : ℕ) (es : List ℕ) (n : ℕ) → IsChain s es n → s ≤ n
chain_le s [] n h = omega arith
chain_le s (e ∷ es) n h = let k = chain_le e es n h.1 in omega (arith, k, h.0)

-- a piece ends behind its start and within the bytes
pub chain_bounds : (s : ℕ) (es : List ℕ) (n i : ℕ) → i < length es → IsChain s es n → (start_at s es i ≤ get_or es i 0) × (get_or es i 0 ≤ n)
chain_bounds s [] n i l h = absurd (omega arith)
chain_bounds s (e ∷ es) n zero l h = (h.0, chain_le e es n h.1)
chain_bounds s (e ∷ es) n (suc i) l h = chain_bounds e es n i (omega arith) h.1

-- where the first piece begins
pub start_first : (s : ℕ) (es : List ℕ) → start_at s es 0 ≡ s
start_first s [] = refl
start_first s (e ∷ es) = refl

-- the next piece begins where a piece ends
pub start_next : (s : ℕ) (es : List ℕ) (i : ℕ) → i < length es → start_at s es (suc i) ≡ get_or es i 0
start_next s [] i h = absurd (omega arith)
start_next s (e ∷ es) zero h = start_first e es
start_next s (e ∷ es) (suc i) h = start_next e es i (omega arith)

-- one more end
pub chain-push : (s : ℕ) (es : List ℕ) (n m : ℕ) → n ≤ m → IsChain s es n → IsChain s (es ++ m ∷ []) m
chain-push s [] n m l h = (omega (arith, h, l), refl)
chain-push s (e ∷ es) n m l h = (h.0, chain-push e es n m l h.1)

-- more bytes at the end change no piece before
same_piece : (bytes v : List ℕ) (s e : ℕ) → s ≤ e → e ≤ length bytes → slice_range (bytes ++ v) s e ≡ slice_range bytes s e
same_piece bytes v s e l h =
    let a : s ≤ length bytes = omega arith in
    let b : e - s ≤ length (drop s bytes) = omega (arith, length-drop s bytes) in
    ap (take (e - s)) (drop-append-le s bytes v a) ∙ take-append-le (e - s) (drop s bytes) v b

-- the bytes put at the end are the last piece
last_piece : (bytes v : List ℕ) (s m : ℕ) → length bytes ≡ s → m ≡ s + length v → slice_range (bytes ++ v) s m ≡ v
last_piece bytes v s m l e = ap (take (m - s)) (drop_at bytes v s l) ∙ take_all (m - s) v (omega arith)

-- one more piece
pub pieces-push : (bytes v : List ℕ) (s : ℕ) (es : List ℕ) (m : ℕ) → m ≡ length bytes + length v → IsChain s es (length bytes) → pieces (bytes ++ v) s (es ++ m ∷ []) ≡ pieces bytes s es ++ v ∷ []
pieces-push bytes v s [] m e h = ap (λ p. p ∷ []) (last_piece bytes v s m (sym h) (omega (arith, e, h)))
pieces-push bytes v s (x ∷ es) m e h =
    ap (λ p. p ∷ pieces (bytes ++ v) x (es ++ m ∷ [])) (same_piece bytes v s x h.0 (chain_le x es (length bytes) h.1))
    ∙ ap (λ ps. slice_range bytes s x ∷ ps) (pieces-push bytes v x es m e h.1)

-- a piece begins where the one before it ends
pub start_is : (es : List ℕ) (i j : ℕ) → j < length es → i ≡ suc j → start_at 0 es i ≡ get_or es j 0
start_is es i j h e = rw e (start_next 0 es j (omega (arith, h, e)))

-- a choice by a result that is Ok
pub when_ok : {T E A : Type 0} (r : Result T E) (a b : A) → IsOk r → cond (is_ok r) a b ≡ a
when_ok r a b h = ap (λ t. cond t a b) h

-- the pieces from one on begin where it does
pub drop-pieces : (bytes : List ℕ) (s : ℕ) (es : List ℕ) (i : ℕ) → drop i (pieces bytes s es) ≡ pieces bytes (start_at s es i) (drop i es)
drop-pieces bytes s [] zero = refl
drop-pieces bytes s [] (suc i) = refl
drop-pieces bytes s (e ∷ es) zero = refl
drop-pieces bytes s (e ∷ es) (suc i) = drop-pieces bytes e es i

-- the first pieces are those of the first ends
pub take-pieces : (bytes : List ℕ) (s : ℕ) (es : List ℕ) (n : ℕ) → take n (pieces bytes s es) ≡ pieces bytes s (take n es)
take-pieces bytes s es zero = refl
take-pieces bytes s [] (suc n) = refl
take-pieces bytes s (e ∷ es) (suc n) = ap (λ ps. slice_range bytes s e ∷ ps) (take-pieces bytes e es n)

-- the ends from one on are a chain from where its piece begins
pub chain-drop : (s : ℕ) (es : List ℕ) (n i : ℕ) → IsChain s es n → IsChain (start_at s es i) (drop i es) n
chain-drop s [] n zero h = h
chain-drop s [] n (suc i) h = h
chain-drop s (e ∷ es) n zero h = h
chain-drop s (e ∷ es) n (suc i) h = chain-drop e es n i h.1

-- the first ends are a chain up to where the next piece begins
pub chain-take : (s : ℕ) (es : List ℕ) (n i : ℕ) → IsChain s es n → IsChain s (take i es) (start_at s es i)
chain-take s [] n zero h = refl
chain-take s [] n (suc i) h = refl
chain-take s (e ∷ es) n zero h = refl
chain-take s (e ∷ es) n (suc i) h = (h.0, chain-take e es n i h.1)

-- where the first piece begins, and all that follow
start_zero : (s : ℕ) (es : List ℕ) (n : ℕ) → start_at (start_at s es 0) (drop 0 es) n ≡ start_at s es (0 + n)
start_zero s es n = let same : 0 + n ≡ n = omega arith in rw (same, start_first s es) refl

-- where a piece begins, counted from an earlier one
pub start_at-drop : (s : ℕ) (es : List ℕ) (i n : ℕ) → start_at (start_at s es i) (drop i es) n ≡ start_at s es (i + n)
start_at-drop s es zero n = start_zero s es n
start_at-drop s [] (suc i) n = refl
start_at-drop s (e ∷ es) (suc i) n = let next : suc i + n ≡ suc (i + n) = omega arith in rw next (start_at-drop e es i n)

-- a piece of a run of bytes is a piece of the bytes
moved_piece : (bytes : List ℕ) (from to s e : ℕ) → from ≤ s → s ≤ e → e ≤ to → slice_range (slice_range bytes from to) (s - from) (e - from) ≡ slice_range bytes s e
moved_piece bytes from to s e a b c =
    let run : to - from ≡ (s - from) + (to - s) = omega arith in
    let long : (e - from) - (s - from) ≡ e - s = omega arith in
    let at : from + (s - from) ≡ s = omega arith in
    let within : e - s ≤ to - s = omega arith in
    ap (λ n. take n (drop (s - from) (slice_range bytes from to))) long
    ∙ ap (λ n. take (e - s) (drop (s - from) (take n (drop from bytes)))) run
    ∙ ap (take (e - s)) (drop-take (s - from) (to - s) (drop from bytes))
    ∙ take-take (e - s) (to - s) (drop (s - from) (drop from bytes)) within
    ∙ ap (take (e - s)) (drop-drop (s - from) from bytes ∙ ap (λ n. drop n bytes) at)

-- the pieces of a run of bytes, with their ends moved to its start, are those pieces
pub pieces-moved : (bytes : List ℕ) (from to s : ℕ) (es : List ℕ) → from ≤ s → IsChain s es to → pieces (slice_range bytes from to) (s - from) (map (λ e. e - from) es) ≡ pieces bytes s es
pieces-moved bytes from to s [] a h = refl
pieces-moved bytes from to s (e ∷ es) a h =
    ap (λ p. p ∷ pieces (slice_range bytes from to) (e - from) (map (λ e. e - from) es)) (moved_piece bytes from to s e a h.0 (chain_le e es to h.1))
    ∙ ap (λ ps. slice_range bytes s e ∷ ps) (pieces-moved bytes from to e es (omega (arith, a, h.0)) h.1)

-- a chain stays one when it is moved
pub chain-moved : (from s : ℕ) (es : List ℕ) (to : ℕ) → from ≤ s → IsChain s es to → IsChain (s - from) (map (λ e. e - from) es) (to - from)
chain-moved from s [] to a h = ap (λ n. n - from) h
chain-moved from s (e ∷ es) to a h = (omega (arith, a, h.0), chain-moved from e es to (omega (arith, a, h.0)) h.1)

-- each end of a chain is behind its start
pub chain_above : (s : ℕ) (es : List ℕ) (n : ℕ) → IsChain s es n → (k : ℕ) → k < length es → s ≤ get_or es k 0
chain_above s [] n h k l = absurd (omega arith)
chain_above s (e ∷ es) n h zero l = h.0
chain_above s (e ∷ es) n h (suc k) l = let m = chain_above e es n h.1 k (omega arith) in omega (arith, m, h.0)

-- the ends from one up to another are a chain from where the first piece begins up to where the next one would
pub chain-slice : (s : ℕ) (es : List ℕ) (n i j : ℕ) → i ≤ j → IsChain s es n → IsChain (start_at s es i) (slice_range es i j) (start_at s es j)
chain-slice s es n i j order h =
    let at : i + (j - i) ≡ j = omega arith in
    let there : start_at (start_at s es i) (drop i es) (j - i) ≡ start_at s es j = start_at-drop s es i (j - i) ∙ ap (start_at s es) at in
    rw there at (chain-take (start_at s es i) (drop i es) n (j - i) (chain-drop s es n i h))

-- pieces begin in their order
pub starts_rise : (s : ℕ) (es : List ℕ) (n i j : ℕ) → i ≤ j → IsChain s es n → start_at s es i ≤ start_at s es j
starts_rise s es n i j order h = chain_le (start_at s es i) (slice_range es i j) (start_at s es j) (chain-slice s es n i j order h)

-- a piece begins within the bytes
pub start_within : (s : ℕ) (es : List ℕ) (n i : ℕ) → IsChain s es n → start_at s es i ≤ n
start_within s es n i h = chain_le (start_at s es i) (drop i es) n (chain-drop s es n i h)

-- each end of a part lies behind where the part begins
pub part_above : (es : List ℕ) (n i j from : ℕ) → i ≤ j → IsChain 0 es n → from ≡ start_at 0 es i → (k : ℕ) → k < length (slice_range es i j) → from ≤ get_or (slice_range es i j) k 0
part_above es n i j from order h is k l = rw is (chain_above (start_at 0 es i) (slice_range es i j) (start_at 0 es j) (chain-slice 0 es n i j order h) k l)

-- the ends of a part, moved to its start, are a chain in its run of bytes
pub part_chain : (bytes es : List ℕ) (i j from to : ℕ) → i ≤ j → IsChain 0 es (length bytes) → from ≡ start_at 0 es i → to ≡ start_at 0 es j → IsChain 0 (map (λ e. e - from) (slice_range es i j)) (length (slice_range bytes from to))
part_chain bytes es i j from to order h is ends =
    let chain : IsChain from (slice_range es i j) to = rw (is, ends) (chain-slice 0 es (length bytes) i j order h) in
    let within : to ≤ length bytes = rw ends (start_within 0 es (length bytes) j h) in
    let long : length (slice_range bytes from to) ≡ to - from = omega (arith, length-take (to - from) (drop from bytes), length-drop from bytes, within) in
    let none : from - from ≡ 0 = omega arith in
    rw long (rw none at (chain-moved from from (slice_range es i j) to (omega arith) chain))

-- the pieces of a part are the part of the pieces
pub part_pieces : (bytes es : List ℕ) (i j from to : ℕ) → i ≤ j → IsChain 0 es (length bytes) → from ≡ start_at 0 es i → to ≡ start_at 0 es j → pieces (slice_range bytes from to) 0 (map (λ e. e - from) (slice_range es i j)) ≡ slice_range (pieces bytes 0 es) i j
part_pieces bytes es i j from to order h is ends =
    let chain : IsChain from (slice_range es i j) to = rw (is, ends) (chain-slice 0 es (length bytes) i j order h) in
    let none : from - from ≡ 0 = omega arith in
    ap (λ n. pieces (slice_range bytes from to) n (map (λ e. e - from) (slice_range es i j))) (sym none)
    ∙ pieces-moved bytes from to from (slice_range es i j) (omega arith) chain
    ∙ ap (λ n. pieces bytes n (slice_range es i j)) is
    ∙ sym (ap (take (j - i)) (drop-pieces bytes 0 es i) ∙ take-pieces bytes (start_at 0 es i) (drop i es) (j - i))

-- each end of a part lies no further than where the part ends
pub part_below : (es : List ℕ) (n i j to : ℕ) → i ≤ j → IsChain 0 es n → to ≡ start_at 0 es j → (k : ℕ) → k < length (slice_range es i j) → get_or (slice_range es i j) k 0 ≤ to
part_below es n i j to order h is k l = rw is (chain_bounds (start_at 0 es i) (slice_range es i j) (start_at 0 es j) k l (chain-slice 0 es n i j order h)).1

-- more bytes at the end, and more pieces of which the first begins there
pieces-append : (bytes v : List ℕ) (s : ℕ) (es fs : List ℕ) → IsChain s es (length bytes) → pieces (bytes ++ v) s (es ++ fs) ≡ pieces bytes s es ++ pieces (bytes ++ v) (length bytes) fs
pieces-append bytes v s [] fs h = ap (λ n. pieces (bytes ++ v) n fs) h
pieces-append bytes v s (e ∷ es) fs h =
    ap (λ p. p ∷ pieces (bytes ++ v) e (es ++ fs)) (same_piece bytes v s e h.0 (chain_le e es (length bytes) h.1))
    ∙ ap (λ ps. slice_range bytes s e ∷ ps) (pieces-append bytes v e es fs h.1)

-- a chain behind a chain
chain-append : (s : ℕ) (es : List ℕ) (n : ℕ) (fs : List ℕ) (m : ℕ) → IsChain s es n → IsChain n fs m → IsChain s (es ++ fs) m
chain-append s [] n fs m h k = rw h k
chain-append s (e ∷ es) n fs m h k = (h.0, chain-append e es n fs m h.1 k)

-- the pieces of bytes that stand behind others
pieces-behind : (bytes run : List ℕ) (s : ℕ) (es : List ℕ) → pieces (bytes ++ run) (length bytes + s) (map (λ e. length bytes + e) es) ≡ pieces run s es
pieces-behind bytes run s [] = refl
pieces-behind bytes run s (e ∷ es) =
    let long : (length bytes + e) - (length bytes + s) ≡ e - s = omega arith in
    let there : drop (length bytes + s) (bytes ++ run) ≡ drop s run = sym (drop-drop s (length bytes) (bytes ++ run)) ∙ ap (drop s) (drop_at bytes run (length bytes) refl) in
    ap (λ p. p ∷ pieces (bytes ++ run) (length bytes + e) (map (λ e. length bytes + e) es)) (ap (λ n. take n (drop (length bytes + s) (bytes ++ run))) long ∙ ap (take (e - s)) there)
    ∙ ap (λ ps. slice_range run s e ∷ ps) (pieces-behind bytes run e es)

-- a chain moved on
chain-behind : (n s : ℕ) (es : List ℕ) (m : ℕ) → IsChain s es m → IsChain (n + s) (map (λ e. n + e) es) (n + m)
chain-behind n s [] m h = ap (λ k. n + k) h
chain-behind n s (e ∷ es) m h = (omega (arith, h.0), chain-behind n e es m h.1)

-- ends moved to the start of their run and on behind others are moved at once
moved_on : (es : List ℕ) (from n : ℕ) → map (λ e. n + (e - from)) es ≡ map (λ e. n + e) (map (λ e. e - from) es)
moved_on es from n = sym (map-map (λ e. n + e) (λ e. e - from) es)

-- a part of other pieces put behind: its run of bytes behind the bytes, and its ends, moved on, behind the ends
pub record PutBehind (bytes ends other others run part : List ℕ) (i j from n : ℕ) : Type 0 where
  pub pieces_are : pieces (bytes ++ run) 0 (ends ++ map (λ e. n + (e - from)) part) ≡ pieces bytes 0 ends ++ slice_range (pieces other 0 others) i j
  pub chain : IsChain 0 (ends ++ map (λ e. n + (e - from)) part) (length (bytes ++ run))

pub put_behind : (bytes ends other others : List ℕ) (i j from to n : ℕ) → IsChain 0 ends (length bytes) → n ≡ length bytes → i ≤ j → IsChain 0 others (length other) → from ≡ start_at 0 others i → to ≡ start_at 0 others j → PutBehind bytes ends other others (slice_range other from to) (slice_range others i j) i j from n
put_behind bytes ends other others i j from to n h is order g starts stops =
    let run = slice_range other from to in
    let part = map (λ e. e - from) (slice_range others i j) in
    let none : length bytes + 0 ≡ length bytes = omega arith in
    let moved : map (λ e. n + (e - from)) (slice_range others i j) ≡ map (λ e. length bytes + e) part = moved_on (slice_range others i j) from n ∙ ap (λ m. map (λ e. m + e) part) is in
    let chain : IsChain (length bytes) (map (λ e. length bytes + e) part) (length bytes + length run) =
    rw none at (chain-behind (length bytes) 0 part (length run) (part_chain other others i j from to order g starts stops))
    in
    record {
      pieces_are =
          ap (λ fs. pieces (bytes ++ run) 0 (ends ++ fs)) moved
          ∙ pieces-append bytes run 0 ends (map (λ e. length bytes + e) part) h
          ∙ ap (λ m. pieces bytes 0 ends ++ pieces (bytes ++ run) m (map (λ e. length bytes + e) part)) (sym none)
          ∙ ap (λ ps. pieces bytes 0 ends ++ ps) (pieces-behind bytes run 0 part ∙ part_pieces other others i j from to order g starts stops);
      chain = rw (moved, length-append bytes run) (chain-append 0 ends (length bytes) (map (λ e. length bytes + e) part) (length bytes + length run) h chain);
    }
