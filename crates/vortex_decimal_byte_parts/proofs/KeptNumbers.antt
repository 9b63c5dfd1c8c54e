-- What messages tell, where their numbers are read as 32 bits.
use Rattle.std.proofs.Common.{ℕ, ℤ, ◌≡◌, ◌≤◌, ◌<◌, ◌∙◌, pos, List, [], ◌∷◌, length, get_or, map, refl, sym, subst, arith, to_z, of_z, w32}
use Rattle.vortex_wire.specs.Messages.{Integer, Several, Spells, Whole, latest, or_zero, signed}
use Rattle.vortex_wire.specs.Tables.{v1_rows, v2_rows}
use Rattle.vortex_wire.proofs.Decoded.{stored}

-- a number as it is read of its 32 bits
abbrev pub kept : ℤ → ℤ
kept z = to_z w32 (of_z w32 z)

same_kept : (z : ℤ) (n : ℕ) → z ≡ signed n → z ≡ kept z
same_kept z n e = e ∙ sym (stored z n e)

first_v1 : (bytes : List ℕ) (z : ℤ) (n : ℕ) → Spells v1_rows bytes (Integer z ∷ Whole n ∷ []) → z ≡ kept z
first_v1 bytes z n (fs, f, ((ns, told, e), m)) = same_kept z (or_zero (latest ns)) (cc)

first_v2 : (bytes : List ℕ) (z : ℤ) (ls : List ℤ) → Spells v2_rows bytes (Integer z ∷ Several ls ∷ []) → z ≡ kept z
first_v2 bytes z ls (fs, f, ((ns, told, e), m)) = same_kept z (or_zero (latest ns)) (cc)

lower_kept : (l : ℤ) (ms : List ℕ) → Several (l ∷ []) ≡ Several (map signed ms) → l ≡ kept l
lower_kept l [] e = absurd (cc e)
lower_kept l (x ∷ xs) e = same_kept l x (cc)

lower_v2 : (bytes : List ℕ) (z l : ℤ) → Spells v2_rows bytes (Integer z ∷ Several (l ∷ []) ∷ []) → l ≡ kept l
lower_v2 bytes z l (fs, f, ((ns, told, e), ((ms, more, g), u))) = lower_kept l ms g

-- the first message tells the number that is read
pub kept-v1 : (bytes : List ℕ) (z : ℤ) (n : ℕ) → Spells v1_rows bytes (Integer z ∷ Whole n ∷ []) → Spells v1_rows bytes (Integer (kept z) ∷ Whole n ∷ [])
kept-v1 bytes z n s = subst (λ (x : ℤ). Spells v1_rows bytes (Integer x ∷ Whole n ∷ [])) (first_v1 bytes z n s) s

-- and the second one, with any numbers of lower parts
pub kept-v2 : (bytes : List ℕ) (z : ℤ) (ls : List ℤ) → Spells v2_rows bytes (Integer z ∷ Several ls ∷ []) → Spells v2_rows bytes (Integer (kept z) ∷ Several ls ∷ [])
kept-v2 bytes z ls s = subst (λ (x : ℤ). Spells v2_rows bytes (Integer x ∷ Several ls ∷ [])) (first_v2 bytes z ls s) s

no_items : (s : List ℤ) → length s < 1 → s ≡ []
no_items [] h = refl
no_items (x ∷ xs) h = absurd (omega (arith, h))

one_item : (s : List ℤ) → 1 ≤ length s → length s < 2 → s ≡ get_or s 0 (pos 0) ∷ []
one_item [] h k = absurd (omega (arith, h))
one_item (x ∷ []) h k = refl
one_item (x ∷ y ∷ xs) h k = absurd (omega (arith, k))

-- with none
pub kept-none : (bytes : List ℕ) (z : ℤ) (ls s : List ℤ) → s ≡ ls → length s < 1 → Spells v2_rows bytes (Integer z ∷ Several ls ∷ []) → Spells v2_rows bytes (Integer (kept z) ∷ Several [] ∷ [])
kept-none bytes z ls s e h told =
    kept-v2 bytes z [] (subst (λ (x : List ℤ). Spells v2_rows bytes (Integer z ∷ Several x ∷ [])) (sym e ∙ no_items s h) told)

-- with one
pub kept-one : (bytes : List ℕ) (z : ℤ) (ls s : List ℤ) → s ≡ ls → 1 ≤ length s → length s < 2 → Spells v2_rows bytes (Integer z ∷ Several ls ∷ []) → Spells v2_rows bytes (Integer (kept z) ∷ Several (kept (get_or s 0 (pos 0)) ∷ []) ∷ [])
kept-one bytes z ls s e h k told =
    let l : ℤ = get_or s 0 (pos 0) in
    let one : Spells v2_rows bytes (Integer z ∷ Several (l ∷ []) ∷ []) = subst (λ (x : List ℤ). Spells v2_rows bytes (Integer z ∷ Several x ∷ [])) (sym e ∙ one_item s h k) told in
    let first : Spells v2_rows bytes (Integer (kept z) ∷ Several (l ∷ []) ∷ []) = kept-v2 bytes z (l ∷ []) one in
    subst (λ (x : ℤ). Spells v2_rows bytes (Integer (kept z) ∷ Several (x ∷ []) ∷ [])) (lower_v2 bytes z l one) first
