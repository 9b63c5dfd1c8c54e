-- The items that a word keeps, run of set bits by run.
use Rattle.std.proofs.Common.{ℕ, zero, suc, ◌+◌, ◌-◌, ◌*◌, ◌/◌, ◌%◌, ◌^◌, ◌<◌, ◌≤◌, ◌≡◌, Bool, cond, eqb, List, [], ◌∷◌, ◌++◌, length, take, drop, refl, sym, ap, ◌∙◌, arith, append_assoc, ⊎_elim}
use Rattle.std.specs.Prelude.{slice_range}
use Rattle.std.specs.Int.{bit_at, trailing_ones, w64}
use Rattle.std.specs.Int.Count.{count_trailing_zeros}
use Rattle.std.proofs.lemmas.Bool.{cases_lt}
use Rattle.std.proofs.lemmas.List.{drop-drop}
use Rattle.std.proofs.lemmas.Nat.{shr-shr, shr_le}
use Rattle.std.proofs.lemmas.Nat.Bits.{bit_at-suc, bit_at_lowest, bit_at_ones, bit_at-trailing_ones}
use Rattle.vortex_buffer.specs.Bits.{word_of}
use Rattle.vortex_array_rows.specs.Kept.{kept_by, kept_in}
use Rattle.vortex_array_rows.proofs.KeptWords.{kept_in-even, kept_in-none, kept_in-odd, kept_word_more, lowest, pow_more, set_bit_within, shifted_bit, shorter}

-- a word keeps only of the items that its bits reach
kept_in-front : {X : Type 0} (n word : ℕ) (xs : List X) → word < 2 ^ n → kept_in word (take n xs) ≡ kept_in word xs
kept_in-front zero word xs small = sym (kept_in-none word xs (omega (arith, small)))
kept_in-front (suc n) word [] small = refl
kept_in-front (suc n) word (x ∷ xs) small =
    ap (λ ys. cond (eqb (word % 2) 1) (x ∷ ys) ys) (kept_in-front n (word / 2) xs (omega (arith, pow_more n, small)))

-- bits that are not set keep nothing
kept_in-skip : {X : Type 0} (t word : ℕ) (xs : List X) → ((i : ℕ) → i < t → bit_at word i ≡ 0) → kept_in word xs ≡ kept_in (word / 2 ^ t) (drop t xs)
kept_in-skip zero word xs unset = let same : word ≡ word / 2 ^ 0 = omega arith in ap (λ w. kept_in w xs) same
kept_in-skip (suc t) word [] unset = refl
kept_in-skip (suc t) word (x ∷ xs) unset =
    let next : 1 + t ≡ suc t = omega arith in
    kept_in-even word x xs (sym (bit_at_lowest word) ∙ unset 0 (omega arith))
    ∙ kept_in-skip t (word / 2) xs (λ i l. sym (bit_at-suc word i) ∙ unset (suc i) (omega arith))
    ∙ ap (λ w. kept_in w (drop t xs)) (shr-shr word 1 t ∙ ap (λ n. word / 2 ^ n) next)

-- bits that are set keep all of their items
kept_in-run : {X : Type 0} (run word : ℕ) (xs : List X) → ((i : ℕ) → i < run → bit_at word i ≡ 1) → kept_in word xs ≡ take run xs ++ kept_in (word / 2 ^ run) (drop run xs)
kept_in-run zero word xs set = let same : word ≡ word / 2 ^ 0 = omega arith in ap (λ w. kept_in w xs) same
kept_in-run (suc run) word [] set = refl
kept_in-run (suc run) word (x ∷ xs) set =
    let next : 1 + run ≡ suc run = omega arith in
    kept_in-odd word x xs (sym (bit_at_lowest word) ∙ set 0 (omega arith))
    ∙ ap (λ ys. x ∷ ys)
    (kept_in-run run (word / 2) xs (λ i l. sym (bit_at-suc word i) ∙ set (suc i) (omega arith))
    ∙ ap (λ w. take run xs ++ kept_in w (drop run xs)) (shr-shr word 1 run ∙ ap (λ n. word / 2 ^ n) next))

-- a run of set bits at the low end of a word
pub record LowRun (word run : ℕ) : Type 0 where
  pub some : 0 < run
  pub few : run ≤ 64
  pub set : (i : ℕ) → i < run → bit_at word i ≡ 1

-- all bits of a full word are a run
full_run : trailing_ones w64 18446744073709551615 ≡ 64
unfolding count_trailing_zeros
full_run = refl

-- the set bits before the first that is not set are a run
pub low_run : (word : ℕ) → word < 2 ^ 64 → bit_at word 0 ≡ 1 → LowRun word (trailing_ones w64 word)
low_run word fits first =
    ⊎_elim
    (λ (less : word + 1 < 2 ^ 64).
    let ones = bit_at-trailing_ones w64 word less in
    record {
      some =
          ⊎_elim
          (λ (more : 0 < trailing_ones w64 word). more)
          (λ (none : trailing_ones w64 word ≤ 0). absurd (let zero_is : trailing_ones w64 word ≡ 0 = omega arith in let unset : bit_at word 0 ≡ 0 = rw zero_is at ones.1 in omega (arith, first, unset)))
          (cases_lt 0 (trailing_ones w64 word));
      few = omega (arith, ones.0);
      set = ones.2;
    })
    (λ (full : 2 ^ 64 ≤ word + 1).
    let is : word ≡ 18446744073709551615 = omega (arith, full, fits) in
    let whole : trailing_ones w64 word ≡ 64 = ap (trailing_ones w64) is ∙ full_run in
    record {
      some = omega (arith, whole);
      few = omega (arith, whole);
      set = λ i l. ap (λ n. bit_at n i) is ∙ bit_at_ones 64 i (omega (arith, whole, l));
    })
    (cases_lt (word + 1) (2 ^ 64))

-- the next run of set bits of a word of n bits, behind t bits that are not set
pub record NextRun (rest n t run : ℕ) : Type 0 where
  pub unset : (i : ℕ) → i < t → bit_at rest i ≡ 0
  pub ones : LowRun (rest / 2 ^ t) run
  pub within : t + run ≤ n

-- the trailing zeros of a word that is not 0, and the ones behind them
pub next_run : (rest n run : ℕ) → 0 < rest → rest < 2 ^ 64 → rest < 2 ^ n → run ≡ trailing_ones w64 (rest / 2 ^ count_trailing_zeros 64 rest) → NextRun rest n (count_trailing_zeros 64 rest) run
next_run rest n run some fits small is =
    let t = count_trailing_zeros 64 rest in
    let low = lowest rest 64 some fits (omega arith) in
    let first : bit_at (rest / 2 ^ t) 0 ≡ 1 = shifted_bit rest t 0 ∙ ap (bit_at rest) (let same : t + 0 ≡ t = omega arith in same) ∙ low.here in
    let below : rest / 2 ^ t < 2 ^ 64 = omega (arith, shr_le rest t, fits) in
    let ones : LowRun (rest / 2 ^ t) run = rw is (low_run (rest / 2 ^ t) below first) in
    let last : run - 1 < run = omega (arith, ones.some) in
    let inside = set_bit_within rest (t + (run - 1)) n (sym (shifted_bit rest t (run - 1)) ∙ ones.set (run - 1) last) small in
    record { unset = low.before; ones = ones; within = omega (arith, inside, ones.some) }

-- a word without a run is shifted by its length, in two steps
run_shifted : (rest t run : ℕ) → 0 < run → rest / 2 ^ t / 2 ^ (run - 1) / 2 ≡ rest / 2 ^ t / 2 ^ run
run_shifted rest t run some =
    let all : run - 1 + 1 ≡ run = omega arith in
    shr-shr (rest / 2 ^ t) (run - 1) 1 ∙ ap (λ n. rest / 2 ^ t / 2 ^ n) all

-- what is left behind a run is as much shorter
pub run_shorter : (rest n t run left : ℕ) → NextRun rest n t run → rest < 2 ^ n → left ≡ n - (t + run) → rest / 2 ^ t / 2 ^ (run - 1) / 2 < 2 ^ left
run_shorter rest n t run left next small is =
    let remains : n - (t + (run - 1) + 1) ≡ left = omega (arith, is, next.ones.some) in
    rw (shr-shr rest t (run - 1)) (rw remains at (shorter rest (t + (run - 1)) n small (omega (arith, next.within, next.ones.some))))

-- one run pushed, and the walk goes on behind it
pub run_more : {X : Type 0} (before now goal_is xs : List X) (rest n at t run first next : ℕ) → NextRun rest n t run → first ≡ at + t → next ≡ first + run → now ≡ before ++ slice_range xs first next → before ++ kept_in rest (drop at xs) ≡ goal_is → now ++ kept_in (rest / 2 ^ t / 2 ^ (run - 1) / 2) (drop next xs) ≡ goal_is
run_more before now goal_is xs rest n at t run first next is from to pushed so_far =
    let left = kept_in (rest / 2 ^ t / 2 ^ run) (drop next xs) in
    let long : next - first ≡ run = omega (arith, to) in
    let start : drop t (drop at xs) ≡ drop first xs = drop-drop t at xs ∙ ap (λ n. drop n xs) (sym from) in
    let behind : drop run (drop first xs) ≡ drop next xs = drop-drop run first xs ∙ ap (λ n. drop n xs) (sym to) in
    let parts : kept_in rest (drop at xs) ≡ slice_range xs first next ++ left =
    kept_in-skip t rest (drop at xs) is.unset
    ∙ ap (kept_in (rest / 2 ^ t)) start
    ∙ kept_in-run run (rest / 2 ^ t) (drop first xs) is.ones.set
    ∙ ap (λ ys. take run (drop first xs) ++ kept_in (rest / 2 ^ t / 2 ^ run) ys) behind
    ∙ ap (λ n. take n (drop first xs) ++ left) (sym long)
    in
    ap (λ w. now ++ kept_in w (drop next xs)) (run_shifted rest t run is.ones.some)
    ∙ ap (λ ys. ys ++ left) pushed
    ∙ append_assoc before (slice_range xs first next) left
    ∙ ap (λ ys. before ++ ys) (sym parts)
    ∙ so_far

-- one more word of items: what it keeps comes behind what was kept before
pub word_more : {X : Type 0} (set : List Bool) (items : List X) (k word : ℕ) (before now : List X) → length set ≡ length items → word ≡ word_of set k → word < 2 ^ 64 → before ≡ kept_by (take (64 * k) set) (take (64 * k) items) → now ≡ before ++ kept_in word (drop (64 * k) items) → now ≡ kept_by (take (64 * (k + 1)) set) (take (64 * (k + 1)) items)
word_more set items k word before now same is fits so_far more =
    more
    ∙ ap (λ ys. ys ++ kept_in word (drop (64 * k) items)) so_far
    ∙ ap (λ ys. kept_by (take (64 * k) set) (take (64 * k) items) ++ ys) (sym (kept_in-front 64 word (drop (64 * k) items) fits) ∙ ap (λ w. kept_in w (take 64 (drop (64 * k) items))) is)
    ∙ sym (kept_word_more set items k same)
