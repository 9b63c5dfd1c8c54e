-- The least and the greatest of the first rows.
use Rattle.std.proofs.Common.{ℕ, ◌<◌, ◌≤◌, ◌≡◌, ◌+◌, true, false, Bool, List, get_or, sym, ap, refl, ◌∙◌, arith, Option, Some, None, inl, inr}
use Rattle.std.specs.Prelude.{IsTrue, is_some, ◌⊎◌}
use Rattle.std.proofs.lemmas.Bool.{cases_lt, false≢true, true≢false}
use Rattle.vortex_array_types.specs.declared.scalar.Value.{Value}
use Rattle.vortex_array_order.specs.InOrder.{at_most}
use Rattle.vortex_array_order.specs.Extremes.{ExtremesOf, IsExtreme, IsFirstValue}
use Rattle.vortex_array_order.proofs.OrderLaws.{at_most-itself, at_most-trans}

pub is-none : (a : Option Value) → is_some a ≡ false → a ≡ None
is-none None h = refl
is-none (Some a) h = absurd (true≢false h)

-- one more row
pub more : (P : ℕ → Type 0) (i : ℕ) → ((j : ℕ) → j < i → P j) → P i → (j : ℕ) → j < i + 1 → P j
more P i h here j l = by_place (cases_lt j i)
  where
    by_place : (j < i) ⊎ (i ≤ j) → P j
    by_place (inl b) = h j b
    by_place (inr b) = let same : j ≡ i = omega (arith, l, b) in rw same here

-- each row stands so to itself, and by way of others
pub record IsPreorder (stand : Option Value → Option Value → Bool) : Type 0 where
  pub itself : (a : Option Value) → IsTrue (stand a a)
  pub trans : (a b c : Option Value) → IsTrue (stand a b) → IsTrue (stand b c) → IsTrue (stand a c)

pub at-most : IsPreorder at_most
at-most = record { itself = at_most-itself; trans = at_most-trans }

pub at-least : IsPreorder (λ a b. at_most b a)
at-least = record { itself = at_most-itself; trans = λ a b c h k. at_most-trans c b a k h }

extreme_first : (stand : Option Value → Option Value → Bool) → IsPreorder stand → (rows : List (Option Value)) (i : ℕ) → IsFirstValue rows i → IsExtreme stand rows (i + 1) i
extreme_first stand order rows i h = record {
  within = omega arith;
  some = h.some;
  bound = more (λ j. is_some (get_or rows j None) ≡ true → IsTrue (stand (get_or rows i None) (get_or rows j None))) i
      (λ j l t. absurd (false≢true (sym (ap is_some (h.none j l)) ∙ t))) (λ t. order.itself (get_or rows i None));
}

-- the first value is both extremes
pub extremes-first : (rows : List (Option Value)) (i : ℕ) → IsFirstValue rows i → ExtremesOf rows (i + 1) i i
extremes-first rows i h = record { least = extreme_first at_most at-most rows i h; greatest = extreme_first (λ a b. at_most b a) at-least rows i h }

-- the next value is the extreme where it stands so to the extreme before
pub extreme-new : (stand : Option Value → Option Value → Bool) → IsPreorder stand → (rows : List (Option Value)) (i place : ℕ) → IsExtreme stand rows i place → is_some (get_or rows i None) ≡ true → IsTrue (stand (get_or rows i None) (get_or rows place None))
    → IsExtreme stand rows (i + 1) i
extreme-new stand order rows i place h s e = record {
  within = omega arith;
  some = s;
  bound = more (λ j. is_some (get_or rows j None) ≡ true → IsTrue (stand (get_or rows i None) (get_or rows j None))) i
      (λ j l t. order.trans (get_or rows i None) (get_or rows place None) (get_or rows j None) e (h.bound j l t)) (λ t. order.itself (get_or rows i None));
}

-- and else the extreme stays
pub extreme-kept : (stand : Option Value → Option Value → Bool) (rows : List (Option Value)) (i place : ℕ) → IsExtreme stand rows i place → (is_some (get_or rows i None) ≡ true → IsTrue (stand (get_or rows place None) (get_or rows i None))) → IsExtreme stand rows (i + 1) place
extreme-kept stand rows i place h here = record {
  within = omega (arith, h.within);
  some = h.some;
  bound = more (λ j. is_some (get_or rows j None) ≡ true → IsTrue (stand (get_or rows place None) (get_or rows j None))) i h.bound here;
}

-- so do both extremes at one more row that is null
pub passed-over : (rows : List (Option Value)) (i least greatest : ℕ) → ExtremesOf rows i least greatest → is_some (get_or rows i None) ≡ false → ExtremesOf rows (i + 1) least greatest
passed-over rows i least greatest h e = record {
  least = extreme-kept at_most rows i least h.least (λ s. absurd (false≢true (sym e ∙ s)));
  greatest = extreme-kept (λ a b. at_most b a) rows i greatest h.greatest (λ s. absurd (false≢true (sym e ∙ s)));
}
