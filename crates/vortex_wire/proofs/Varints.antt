-- No spelling of a number begins another, and what a number's first groups say of it.
use Rattle.std.proofs.Common.{◌≡◌, ◌≤◌, ◌<◌, ◌+◌, ◌-◌, ◌^◌, ◌++◌, ◌∙◌, inl, inr, ap, subst, arith, ℕ, List, [], ◌∷◌, length, take, drop, get_or}
use Rattle.std.proofs.lemmas.List.{take-append-drop}
use Rattle.std.specs.List.{slice_range}
use Rattle.vortex_wire.proofs.Slices.{slice_front, length_slice}
use Rattle.vortex_wire.specs.Grammar.{BeginsVarint, Groups, Varint}

pub same_groups : (a b x y : List ℕ) (m n : ℕ) → Groups a m → Groups b n → a ++ x ≡ b ++ y → (a ≡ b) × (m ≡ n)
same_groups [] b x y m n g h e = absurd g
same_groups (p ∷ ps) [] x y m n g h e = absurd h
same_groups (p ∷ ps) (q ∷ qs) x y m n g h e =
    let heads : p ≡ q = cc in
    let tails : ps ++ x ≡ qs ++ y = cc in
    elim g [
      | inl u ↦ elim h [ inl v ↦ (cc (u.1, u.2, v.1, v.2), cc (u.1, v.1)) | inr v ↦ absurd (omega (arith, heads, u.0, v.0)) ]
      | inr u ↦ elim h [
        | inl v ↦ absurd (omega (arith, heads, u.0, v.0))
        | inr v ↦
            let r = same_groups ps qs x y u.2 v.2 u.4 v.4 tails in
            (cc (r.0), omega (arith, heads, r.1, u.3, v.3))
      ]
    ]

pub same_varint : (a b x y : List ℕ) (m n : ℕ) → Varint m a → Varint n b → a ++ x ≡ b ++ y → (a ≡ b) × (m ≡ n)
same_varint a b x y m n g h e = same_groups a b x y m n g.groups h.groups e

pub varint_not_empty : (number : ℕ) (bytes : List ℕ) → Varint number bytes → 0 < length bytes
varint_not_empty number [] v = absurd v.groups
varint_not_empty number (b ∷ bs) v = omega arith

-- where the groups behind the first byte are no number that fits, all are none
pub none_behind : (bytes tail : List ℕ) (room : ℕ) → tail ≡ drop 1 bytes → 128 ≤ get_or bytes 0 0
    → ((number : ℕ) (front rest : List ℕ) → tail ≡ front ++ rest → length front ≤ room - 1 → number < 2 ^ 64 → Groups front number → ⊥)
    → (number : ℕ) (front rest : List ℕ) → bytes ≡ front ++ rest → length front ≤ room → number < 2 ^ 64 → Groups front number → ⊥
none_behind bytes tail room is high none number [] rest e size fits g = g
none_behind bytes tail room is high none number (b ∷ front) rest e size fits g =
    let head : get_or bytes 0 0 ≡ b = ap (λ l. get_or l 0 0) e in
    elim g [
      | inl u ↦ absurd (omega (arith, head, u.0, high))
      | inr u ↦ none u.2 front rest (is ∙ ap (drop 1) e) (omega (arith, size)) (omega (arith, u.3, u.0, fits)) u.4
    ]

-- where the groups behind the first byte are a number of 57 bits or more, all are past 64
pub past_behind : (bytes tail : List ℕ) (count high : ℕ) → tail ≡ drop 1 bytes → 128 ≤ get_or bytes 0 0 → Groups (take count tail) high → 2 ^ 57 ≤ high
    → (number : ℕ) (front rest : List ℕ) → bytes ≡ front ++ rest → number < 2 ^ 64 → Groups front number → ⊥
past_behind bytes tail count high is first spelled past number [] rest e fits g = g
past_behind bytes tail count high is first spelled past number (b ∷ front) rest e fits g =
    let head : get_or bytes 0 0 ≡ b = ap (λ l. get_or l 0 0) e in
    elim g [
      | inl u ↦ absurd (omega (arith, head, u.0, first))
      | inr u ↦
          let r = same_groups (take count tail) front (drop count tail) rest high u.2 spelled u.4 (take-append-drop count tail ∙ is ∙ ap (drop 1) e) in
          omega (arith, u.3, u.0, fits, past, r.1)
    ]

-- groups that were found at the front of a part, as a number from its place on
pub varint_found : (bytes : List ℕ) (at end count number : ℕ) → at ≤ end → end ≤ length bytes → count ≤ 10 → count ≤ length (slice_range bytes at end)
    → number < 2 ^ 64 → Groups (take count (slice_range bytes at end)) number → Varint number (slice_range bytes at (at + count))
varint_found bytes at end count number order inside short room fits g =
    let size : at + count ≤ end = omega (arith, length_slice bytes at end order inside, room) in
    let part = slice_front bytes at count end size inside in
    record {
      groups = subst (λ (l : List ℕ). Groups l number) part g;
      short = omega (arith, length_slice bytes at (at + count) (omega arith) (omega (arith, size, inside)), short);
      fits = fits;
    }

-- where no groups of so many are a number that fits, no number begins
pub no_varint : (bytes : List ℕ) → ((number : ℕ) (front rest : List ℕ) → bytes ≡ front ++ rest → length front ≤ 10 → number < 2 ^ 64 → Groups front number → ⊥)
    → BeginsVarint bytes → ⊥
no_varint bytes none (number, front, rest, e, v) = none number front rest e v.short v.fits v.groups
