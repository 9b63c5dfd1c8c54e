-- How many bits that are not set come first, told by how many are set.
use Rattle.std.proofs.Common.{ℕ, zero, suc, ◌<◌, ◌≤◌, ◌≡◌, ◌+◌, ◌-◌, cond, Bool, true, false, List, [], ◌∷◌, length, get_or, drop, take, replicate, refl, sym, subst, ap, ◌∙◌, arith, length-drop}
use Rattle.std.specs.List.{count_by}
use Rattle.std.proofs.lemmas.Bool.{true≢false}
use Rattle.std.proofs.lemmas.List.{get_or-drop, get_or-replicate, get_or-take}
use Rattle.std.proofs.lemmas.List.Elements.{All-replicate}
use Rattle.std.proofs.lemmas.List.Sums.{count_by-le-length, sum_by-cons, sum_by-le, sum_by-take-drop}
use Rattle.vortex_array_order.specs.Nulls.{NullBehind, NullsFirst}

count_cons : (b : Bool) (bits : List Bool) → count_by (λ bit. bit) (b ∷ bits) ≡ cond {A = ℕ} b 1 0 + count_by (λ bit. bit) bits
count_cons b bits = sum_by-cons (λ (c : Bool). cond {A = ℕ} c 1 0) b bits

-- bits of which none is set at the front have their set bits behind it
count_behind : (bits : List Bool) (n : ℕ) → take n bits ≡ replicate n false → count_by (λ bit. bit) bits ≡ count_by (λ bit. bit) (drop n bits)
count_behind bits n h =
    let none = sum_by-le (λ (c : Bool). cond {A = ℕ} c 1 0) 0 (take n bits) (rw h (All-replicate (λ (c : Bool). cond {A = ℕ} c 1 0 ≤ 0) n false (omega arith))) in
    omega (arith, none, sum_by-take-drop (λ (c : Bool). cond {A = ℕ} c 1 0) bits n)

-- as many bits as there are are set only where each is
all_set : (bits : List Bool) (i : ℕ) → count_by (λ bit. bit) bits ≡ length bits → i < length bits → get_or bits i false ≡ true
all_set [] i e l = absurd (omega (arith, l))
all_set (true ∷ bits) zero e l = refl
all_set (true ∷ bits) (suc i) e l = all_set bits i (omega (arith, e, count_cons true bits)) (omega (arith, l))
all_set (false ∷ bits) i e l = absurd (omega (arith, e, count_cons false bits, count_by-le-length (λ (bit : Bool). bit) bits))

-- and else one is not
one_unset : (bits : List Bool) → (count_by (λ bit. bit) bits ≡ length bits → ⊥) → (i : ℕ) × (i < length bits) × (get_or bits i false ≡ false)
one_unset [] h = absurd (h refl)
one_unset (true ∷ bits) h =
    let rest = one_unset bits (λ e. h (omega (arith, e, count_cons true bits))) in
    (suc rest.0, omega (arith, rest.1), rest.2)
one_unset (false ∷ bits) h = (0, omega arith, refl)

-- bits that are not set at the front are none there
front_unset : (bits : List Bool) (first : ℕ) → take first bits ≡ replicate first false → (i : ℕ) → i < first → get_or bits i false ≡ false
front_unset bits first before i l = sym (get_or-take first bits i false l) ∙ ap (λ bs. get_or bs i false) before ∙ get_or-replicate first i false false l

-- where as many bits are set as stand from the first that is set on, all of those are
pub rest-set : (bits : List Bool) (first : ℕ) → first < length bits → take first bits ≡ replicate first false → count_by (λ bit. bit) bits ≡ length bits - first → NullsFirst bits first
rest-set bits first within before counted =
    let all : count_by (λ bit. bit) (drop first bits) ≡ length (drop first bits) = omega (arith, count_behind bits first before, counted, length-drop first bits) in
    record {
      within = omega (arith, within);
      null = front_unset bits first before;
      value = λ i l m.
          let back : first + (i - first) ≡ i = omega (arith, l) in
          subst (λ k. get_or bits k false ≡ true) back (sym (get_or-drop first bits (i - first) false) ∙ all_set (drop first bits) (i - first) all (omega (arith, l, m, length-drop first bits)));
    }

-- and else one behind it is not
pub rest-not-set : (bits : List Bool) (first : ℕ) → first < length bits → get_or bits first false ≡ true → take first bits ≡ replicate first false → (count_by (λ bit. bit) bits ≡ length bits - first → ⊥) → NullBehind bits first
rest-not-set bits first within set before counted =
    let found = one_unset (drop first bits) (λ e. counted (omega (arith, e, count_behind bits first before, length-drop first bits))) in
    let unset : get_or bits (first + found.0) false ≡ false = sym (get_or-drop first bits found.0 false) ∙ found.2 in
    record {
      null = front_unset bits first before;
      value = set;
      second = first + found.0;
      behind = apart found.0 unset;
      within = omega (arith, found.1, length-drop first bits);
      unset = unset;
    }
  where
    apart : (d : ℕ) → get_or bits (first + d) false ≡ false → first < first + d
    apart zero e =
        let same : first + 0 ≡ first = omega arith in
        absurd (true≢false (sym set ∙ subst (λ k. get_or bits k false ≡ false) same e))
    apart (suc d) e = omega arith
