use Rattle.std.proofs.Common.{◌≡◌, ℕ, ◌+◌, ◌<◌, ◌≤◌, List, length, refl, subst, sym, true, false, Bool, Option, None, Some, arith, below_more}
use Rattle.std.specs.Prelude.{slice_get}
use Rattle.std.proofs.lemmas.Option.{slice_get_within}
use Rattle.vortex_scan.specs.declared.item.Item.{Item}
use Rattle.vortex_scan.specs.Keys.{key, key_less}
use Rattle.vortex_scan.specs.Keys.{NoneBelow, IsLeastBelow, IsLeastReady, LeastOf}
use Rattle.vortex_scan.proofs.Keys.{key_less_irrefl, key_less_trans}

-- two keys that both stand before a third
pub not_before : (xs ys zs : List ℕ) → key_less zs ys ≡ false → key_less xs ys ≡ true → key_less zs xs ≡ false
not_before xs ys zs h k =
    elim (key_less zs xs) as (λ b. key_less zs xs ≡ b → b ≡ false) [ true ↦ λ e. let t = key_less_trans zs xs ys e k in cc | false ↦ λ e. refl ] refl

not_both : (b : Bool) → b ≡ false → b ≡ true → ⊥
not_both b p q = cc

module _ {W : Type 0} (items : List (Item W)) (n : ℕ) (x : Item W) (at : slice_get items n ≡ Some x) where
  same_at : (other : Item W) → slice_get items n ≡ Some other → x ≡ other
  same_at other e = cc

  none_more : NoneBelow items n → x.ready ≡ false → NoneBelow items (n + 1)
  none_more below off =
      below_more (λ j. (other : Item W) → slice_get items j ≡ Some other → other.ready ≡ false) n below
      (λ other e. subst (λ (y : Item W). y.ready ≡ false) (same_at other e) off)

  least_more : (b : ℕ) (y : Item W) → IsLeastBelow items n b y → (x.ready ≡ true → key_less (key x) (key y) ≡ false) → IsLeastBelow items (n + 1) b y
  least_more b y l here = record {
    there = l.there;
    ready = l.ready;
    least = below_more (λ k. (other : Item W) → slice_get items k ≡ Some other → other.ready ≡ true → key_less (key other) (key y) ≡ false) n
        l.least
        (λ other e. subst (λ (z : Item W). z.ready ≡ true → key_less (key z) (key y) ≡ false) (same_at other e) here);
  }

  least_here : x.ready ≡ true → ((j : ℕ) → j < n → (other : Item W) → slice_get items j ≡ Some other → other.ready ≡ true → key_less (key other) (key x) ≡ false) → IsLeastBelow items (n + 1) n x
  least_here on below = record {
    there = at;
    ready = on;
    least = below_more (λ k. (other : Item W) → slice_get items k ≡ Some other → other.ready ≡ true → key_less (key other) (key x) ≡ false) n
        below
        (λ other e. subst (λ (z : Item W). z.ready ≡ true → key_less (key z) (key x) ≡ false) (same_at other e) (λ r. key_less_irrefl (key x)));
  }

  pub better_skip : (best : Option ℕ) → LeastOf items n best → x.ready ≡ false → LeastOf items (n + 1) best
  better_skip None l off = none_more l off
  better_skip (Some b) l off = (omega arith, (l.1.0, least_more b l.1.0 l.1.1 (λ on. absurd (not_both x.ready off on))))

  pub better_first : NoneBelow items n → x.ready ≡ true → LeastOf items (n + 1) (Some n)
  better_first none on = (omega arith, (x, least_here on (λ j h other e r. let z : other.ready ≡ false = none j h other e in absurd (cc))))

  pub better_take : (b : ℕ) (y : Item W) → LeastOf items n (Some b) → slice_get items b ≡ Some y → x.ready ≡ true → key_less (key x) (key y) ≡ true → LeastOf items (n + 1) (Some n)
  better_take b y l e on less =
      let old = l.1.1.least in
      let same : l.1.0 ≡ y = cc (l.1.1.there) in
      (omega arith, (x, least_here on (λ j h other d r. not_before (key x) (key y) (key other) (subst (λ (z : Item W). key_less (key other) (key z) ≡ false) same (old j h other d r)) less)))

  pub better_keep : (b : ℕ) (y : Item W) → LeastOf items n (Some b) → slice_get items b ≡ Some y → key_less (key x) (key y) ≡ false → LeastOf items (n + 1) (Some b)
  better_keep b y l e less =
      let same : l.1.0 ≡ y = cc (l.1.1.there) in
      (omega arith, (l.1.0, least_more b l.1.0 l.1.1 (λ on. subst (λ (z : Item W). key_less (key x) (key z) ≡ false) (sym same) less)))

pub least_all : {W : Type 0} (items : List (Item W)) (n i : ℕ) (item : Item W) → length items ≤ n → IsLeastBelow items n i item → IsLeastReady items i item
least_all items n i item e l = record { there = l.there; ready = l.ready; least = λ j other d. l.least j (let h = slice_get_within items j other d in omega arith) other d }
