-- Pairs of hexadecimal digits, one after another.
use Rattle.std.proofs.Common.{◌≡◌, ◌≤◌, ◌++◌, ◌∙◌, ap, sym, ℕ, List, [], ◌∷◌, length, drop, get_or, Option, Some, None, arith, refl, append_assoc, append-nil, option_map}
use Rattle.vortex_query_fields.specs.Hex.{byte_before, hex_spelled, pair_spelled}

-- so many bytes were appended, and the pairs spell these and then what is left
pub record Going (old now pairs rest : List ℕ) : Type 0 where
  pub done : List ℕ
  pub appended : now ≡ old ++ done
  pub spells : hex_spelled pairs ≡ option_map (λ more. done ++ more) (hex_spelled rest)

pub pairs-step : (s : List ℕ) → 2 ≤ length s → hex_spelled s ≡ byte_before (pair_spelled (get_or s 0 0) (get_or s 1 0)) (hex_spelled (drop 2 s))
unfolding hex_spelled
pairs-step [] h = absurd (omega arith)
pairs-step (a ∷ []) h = absurd (omega arith)
pairs-step (a ∷ b ∷ rest) h = refl

pub one-left : (s : List ℕ) → length s ≡ 1 → hex_spelled s ≡ None
unfolding hex_spelled
one-left [] h = absurd (omega arith)
one-left (a ∷ []) h = refl
one-left (a ∷ b ∷ rest) h = absurd (omega arith)

pub none-left : (s : List ℕ) → length s ≡ 0 → hex_spelled s ≡ Some []
unfolding hex_spelled
none-left [] h = refl
none-left (a ∷ rest) h = absurd (omega arith)

-- one more byte
before-more : (done : List ℕ) (b : ℕ) (o : Option (List ℕ)) → option_map (λ more. done ++ more) (byte_before (Some b) o) ≡ option_map (λ more. (done ++ b ∷ []) ++ more) o
before-more done b None = refl
before-more done b (Some more) = ap Some (sym (append_assoc done (b ∷ []) more))

pub going-more : (old now pairs s : List ℕ) (b : ℕ) → Going old now pairs s → 2 ≤ length s → Some b ≡ pair_spelled (get_or s 0 0) (get_or s 1 0) → Going old (now ++ b ∷ []) pairs (drop 2 s)
going-more old now pairs s b g h e = record {
  done = g.done ++ b ∷ [];
  appended = ap (λ l. l ++ b ∷ []) g.appended ∙ append_assoc old g.done (b ∷ []);
  spells = g.spells ∙ ap (option_map (λ more. g.done ++ more)) (pairs-step s h ∙ ap (λ o. byte_before o (hex_spelled (drop 2 s))) (sym e)) ∙ before-more g.done b (hex_spelled (drop 2 s));
}

-- a pair that is none
pub going-wrong : (old now pairs s : List ℕ) → Going old now pairs s → 2 ≤ length s → None ≡ pair_spelled (get_or s 0 0) (get_or s 1 0) → hex_spelled pairs ≡ None
going-wrong old now pairs s g h e = g.spells ∙ ap (option_map (λ more. g.done ++ more)) (pairs-step s h ∙ ap (λ o. byte_before o (hex_spelled (drop 2 s))) (sym e))

-- all pairs, and one digit too many
pub going-odd : (old now pairs s : List ℕ) → Going old now pairs s → length s ≡ 1 → hex_spelled pairs ≡ None
going-odd old now pairs s g h = g.spells ∙ ap (option_map (λ more. g.done ++ more)) (one-left s h)

pub going-whole : (old now pairs s : List ℕ) → Going old now pairs s → length s ≡ 0 → option_map (λ more. old ++ more) (hex_spelled pairs) ≡ Some now
going-whole old now pairs s g h =
    ap (option_map (λ more. old ++ more)) (g.spells ∙ ap (option_map (λ more. g.done ++ more)) (none-left s h))
    ∙ ap Some (ap (λ l. old ++ l) (append-nil g.done) ∙ sym g.appended)
