-- The shortest groups of a number, and that they spell it.
use Rattle.std.proofs.Common.{◌≡◌, ◌≤◌, ◌<◌, ◌+◌, ◌*◌, ◌/◌, ◌%◌, ◌^◌, ◌++◌, ◌∙◌, ◌⊎◌, inl, inr, ap, sym, refl, subst, arith, ℕ, zero, suc, List, [], ◌∷◌, length, append_assoc, nat_lt, true, false}
use Rattle.vortex_wire.specs.Canonical.{groups_of, shortest}
use Rattle.vortex_wire.specs.Grammar.{Groups, Varint}

-- the numbers that so many more groups hold
abbrev pub limit : ℕ → ℕ
limit zero = 128
limit (suc more) = 128 * limit more

-- the last group
pub last_group : (more number : ℕ) → number < 128 → groups_of more number ≡ number ∷ []
unfolding groups_of
last_group zero number low = refl
last_group (suc more) number low = let test : nat_lt number 128 ≡ true = grind arith in rw test refl

-- a group that is not the last
pub next_group : (more number : ℕ) → 128 ≤ number → groups_of (suc more) number ≡ (number % 128 + 128) ∷ groups_of more (number / 128)
unfolding groups_of
next_group more number high = let test : nat_lt number 128 ≡ false = grind arith in rw test refl

pub groups_start : (number : ℕ) → number < 2 ^ 64 → (out : List ℕ) → (more : ℕ) × (number < limit more) × (out ++ groups_of more number ≡ out ++ shortest number)
unfolding shortest
groups_start number fits out = (9, omega (arith, fits), refl)

pub groups_step : (more number : ℕ) (out whole : List ℕ) → 128 ≤ number → number < limit more → out ++ groups_of more number ≡ whole
    → (less : ℕ) × (number / 128 < limit less) × ((out ++ (number % 128 + 128) ∷ []) ++ groups_of less (number / 128) ≡ whole)
groups_step zero number out whole high below e = absurd (omega (arith, high, below))
groups_step (suc more) number out whole high below e =
    (more, omega (arith, below), append_assoc out ((number % 128 + 128) ∷ []) (groups_of more (number / 128)) ∙ ap (λ l. out ++ l) (sym (next_group more number high)) ∙ e)

pub groups_end : (more number : ℕ) (out whole : List ℕ) → number < 128 → out ++ groups_of more number ≡ whole → out ++ number ∷ [] ≡ whole
groups_end more number out whole low e = ap (λ l. out ++ l) (sym (last_group more number low)) ∙ e

groups_spell : (more number : ℕ) → number < limit more → Groups (groups_of more number) number × (length (groups_of more number) ≤ more + 1)
groups_spell zero number below =
    let e = last_group zero number below in
    (subst (λ (l : List ℕ). Groups l number) (sym e) (inl (below, refl, refl)), omega (arith, ap length e))
groups_spell (suc more) number below =
    let split : (number < 128) ⊎ (128 ≤ number) = grind arith in
    elim split [
      | inl low ↦
          let e = last_group (suc more) number low in
          (subst (λ (l : List ℕ). Groups l number) (sym e) (inl (low, refl, refl)), omega (arith, ap length e))
      | inr high ↦
          let e = next_group more number high in
          let r = groups_spell more (number / 128) (omega (arith, below)) in (
            subst (λ (l : List ℕ). Groups l number) (sym e) (inr (omega arith, omega arith, number / 128, omega arith, r.0)),
            omega (arith, ap length e, r.1),
          )
    ]

pub shortest_spells : (number : ℕ) → number < 2 ^ 64 → Varint number (shortest number)
unfolding shortest
shortest_spells number fits =
    let r = groups_spell 9 number (omega (arith, fits)) in
    record { groups = r.0; short = r.1; fits = fits }
