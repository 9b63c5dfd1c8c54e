-- A row lies in one split of a table at most.
use Rattle.std.proofs.Common.{◌≡◌, ◌∙◌, sym, ap, subst, refl, ℕ, ◌+◌, ◌<◌, ◌≤◌, List, [], ◌∷◌, true, length, get_or, arith, inl, inr}
use mathlib.Core.Logic.{⊎_elim}
use Rattle.std.specs.Prelude.{◌⊎◌, Contains}
use Rattle.std.proofs.lemmas.Bool.{cases_order}
use Rattle.std.proofs.lemmas.List.{get_or_default}
use Rattle.vortex_table_types.specs.declared.describe.SplitDesc.{SplitDesc}
use Rattle.vortex_table_types.specs.declared.describe.PartitionDesc.{PartitionDesc}
use Rattle.vortex_scan_types.specs.declared.batch.WorkScope.{WorkScope}
use Rattle.vortex_table_types.specs.Table.{split_scopes, scopes_from}
use Rattle.vortex_table_types.specs.Chosen.{Placed, lies_in}
use Rattle.vortex_table_types.specs.Laws.{SplitsAreApart}
use Rattle.vortex_table_types.proofs.Rising.{Each, Rising, pairs, each_more, each_append, rising_append}

-- the second begins where the first has ended, or lies in a later partition
abbrev pub Past : WorkScope → WorkScope → Type 0
Past s t = (s.file_ordinal < t.file_ordinal) ⊎ ((s.file_ordinal ≡ t.file_ordinal) × (s.rows.end ≤ t.rows.start))

-- the scopes of partition p's splits name it
pub of_partition : (p start : ℕ) (splits : List SplitDesc) → Each (λ t. t.file_ordinal ≡ p) (split_scopes p start splits)
of_partition p start [] = tt
of_partition p start (s ∷ splits) = (refl, of_partition p (start + s.rows) splits)

-- the splits from row `start` on begin there or later
pub behind : (p m start : ℕ) (splits : List SplitDesc) → m ≤ start → Each (λ t. (p ≡ t.file_ordinal) × (m ≤ t.rows.start)) (split_scopes p start splits)
behind p m start [] h = tt
behind p m start (s ∷ splits) h = ((refl, h), behind p m (start + s.rows) splits (omega (arith, h)))

-- each split of a partition ends before the later ones begin
splits_rise : (p start : ℕ) (splits : List SplitDesc) → Rising Past (split_scopes p start splits)
splits_rise p start [] = tt
splits_rise p start (s ∷ splits) = (
  each_more (λ t. (p ≡ t.file_ordinal) × (start + s.rows ≤ t.rows.start)) (Past (record { file_ordinal = p; rows = record { start = start; end = start + s.rows } })) (λ t h. inr (h.0, h.1))
      (split_scopes p (start + s.rows) splits) (behind p (start + s.rows) (start + s.rows) splits (omega arith)),
  splits_rise p (start + s.rows) splits,
)

-- the scopes of the partitions from p on name no earlier one
pub later : (q p : ℕ) (partitions : List PartitionDesc) → q ≤ p → Each (λ t. q ≤ t.file_ordinal) (scopes_from p partitions)
later q p [] h = tt
later q p (d ∷ partitions) h =
    each_append (λ t. q ≤ t.file_ordinal) (split_scopes p 0 d.splits) (scopes_from (p + 1) partitions)
    (each_more (λ t. t.file_ordinal ≡ p) (λ t. q ≤ t.file_ordinal) (λ t e. omega (arith, e, h)) (split_scopes p 0 d.splits) (of_partition p 0 d.splits))
    (later q (p + 1) partitions (omega (arith, h)))

-- so with all splits of a table
pub scopes_rise : (p : ℕ) (partitions : List PartitionDesc) → Rising Past (scopes_from p partitions)
scopes_rise p [] = tt
scopes_rise p (d ∷ partitions) =
    rising_append Past (split_scopes p 0 d.splits) (scopes_from (p + 1) partitions) (splits_rise p 0 d.splits) (scopes_rise (p + 1) partitions)
    (each_more (λ s. s.file_ordinal ≡ p) (λ s. Each (Past s) (scopes_from (p + 1) partitions))
    (λ s e. each_more (λ t. p + 1 ≤ t.file_ordinal) (Past s) (λ t h. inl (omega (arith, e, h))) (scopes_from (p + 1) partitions) (later (p + 1) (p + 1) partitions (omega arith)))
    (split_scopes p 0 d.splits) (of_partition p 0 d.splits))

-- the numbers that a scope says of a row in it
pub record Within (s : WorkScope) (x : Placed) : Type 0 where
  pub there : x.partition ≡ s.file_ordinal
  pub from : s.rows.start ≤ x.row
  pub below : x.row < s.rows.end

-- a row that lies in a split has such numbers
pub within : (s : WorkScope) (x : Placed) → lies_in s x ≡ true → Within s x
within s x h = record { there = grind arith; from = grind arith; below = grind arith }

-- no row lies in two splits of which one ends before the other
never : (s t : WorkScope) (x : Placed) → Past s t → Within s x → Within t x → ⊥
never s t x p u v = ⊎_elim (λ l. omega (arith, l, u.there, v.there)) (λ l. omega (arith, l.1, u.below, v.from)) p

-- so two splits of a rising list with a row in common are one
apart_at : (xs : List WorkScope) → Rising Past xs → (s t : WorkScope) (x : Placed) → Contains xs s → Contains xs t → Within s x → Within t x → s ≡ t
apart_at xs r s t x c d u v =
    let stands : (j : ℕ) (y z : WorkScope) → j < length xs → get_or xs j z ≡ z → get_or xs j y ≡ z = λ j y z h e. get_or_default xs j y z h ∙ e in
    let past : (i j : ℕ) (y z : WorkScope) → i < j → i < length xs → j < length xs → get_or xs i y ≡ y → get_or xs j z ≡ z → Past y z =
    λ i j y z l h k e f. subst (λ w. Past w z) e (subst (λ w. Past (get_or xs i y) w) (stands j y z k f) (pairs Past xs r i j y l k)) in
    ⊎_elim (λ e. sym c.2 ∙ ap (λ n. get_or xs n s) e ∙ stands d.0 s t d.1 d.2)
    (⊎_elim (λ l. absurd (never s t x (past c.0 d.0 s t l c.1 d.1 c.2 d.2) u v)) (λ l. absurd (never t s x (past d.0 c.0 t s l d.1 c.1 d.2 c.2) v u)))
    (cases_order c.0 d.0)

-- a row lies in one split of a table at most
pub apart : SplitsAreApart
apart partitions s t x c d h k = apart_at (scopes_from 0 partitions) (scopes_rise 0 partitions) s t x c d (within s x h) (within t x k)
