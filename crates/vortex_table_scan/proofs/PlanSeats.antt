-- The seats of a partition's plan: one for each live split, with the needed chunks there.
use Rattle.std.proofs.Common.{◌≡◌, ◌∙◌, sym, ap, refl, ℕ, suc, ◌+◌, ◌<◌, ◌≤◌, List, [], ◌∷◌, ◌++◌, Bool, true, false, eqb, length, arith}
use Rattle.std.specs.Prelude.{count_by, filter, flat_map}
use Rattle.std.specs.List.{AllByRecursion, enumerate_from}
use Rattle.vortex_array_types.specs.declared.column.ColumnDesc.{ColumnDesc}
use Rattle.vortex_io.specs.declared.request.IoTarget.TheVariants as target
use Rattle.vortex_scan.specs.Plans.{has_targets}
use Rattle.vortex_scan.specs.Seats.{Seat, planned_seats, targets_of}
use Rattle.vortex_scan.proofs.Tallies.{count_join}
use Rattle.vortex_scan_types.specs.declared.batch.WorkScope.{WorkScope}
use Rattle.vortex_scan_types.specs.declared.request.ScanRequest.{ScanRequest}
use Rattle.vortex_table_planner.specs.Live.{chunks_of, is_live, is_needed, live_splits, morsels_of, names_in, needed_columns, numbered}
use Rattle.vortex_table_planner.specs.declared.live.LiveSplit.{LiveSplit}
use Rattle.vortex_table_types.specs.Table.{split_scopes}
use Rattle.vortex_table_types.specs.declared.describe.PartitionDesc.{PartitionDesc}
use Rattle.vortex_table_types.specs.declared.describe.SplitDesc.{SplitDesc}
use Rattle.vortex_table_types.proofs.Apart.{of_partition}
use Rattle.vortex_table_types.proofs.Rising.{Each, Rising, each_filter, each_map, each_more, numbered_rise, rising_filter, rising_map}
use Rattle.vortex_table_scan.specs.Journals.{is_chunk}
use Rattle.vortex_table_scan.proofs.Answering.{once}
use Rattle.vortex_table_scan.proofs.Tallied.{both_true, count_map, none_count, same_number}

-- ---- numbered elements

-- each number is below the end
numbered_below : {X : Type 0} (n most : ℕ) (xs : List X) → n + length xs ≤ most → Each (λ t. t.0 < most) (enumerate_from n xs)
numbered_below n most [] h = tt
numbered_below n most (x ∷ xs) h = (omega (arith, h), numbered_below (n + 1) most xs (omega (arith, h)))

-- what holds of each element
numbered_each : {X : Type 0} (P : X → Type 0) (n : ℕ) (xs : List X) → Each P xs → Each (λ t. P t.1) (enumerate_from n xs)
numbered_each P n [] all = tt
numbered_each P n (x ∷ xs) all = (all.0, numbered_each P (n + 1) xs all.1)

length_scopes : (p start : ℕ) (splits : List SplitDesc) → length (split_scopes p start splits) ≡ length splits
length_scopes p start [] = refl
length_scopes p start (split ∷ splits) = ap suc (length_scopes p (start + split.rows) splits)

-- ---- live splits and needed columns

module _ (request : ScanRequest) (p : ℕ) (partition : PartitionDesc) where
  abbrev as_live : ℕ × WorkScope → LiveSplit
  as_live x = record { split = x.0; scope = x.1 }

  -- live splits rise
  pub live_rises : Rising (λ l m. l.split < m.split) (live_splits request p partition)
  live_rises =
      rising_filter (λ l m. l.split < m.split) (λ (live : LiveSplit). is_live request live.scope) (numbered 0 (split_scopes p 0 partition.splits))
      (rising_map (λ s t. s.0 < t.0) (λ l m. l.split < m.split) as_live (λ s t less. less) (enumerate_from 0 (split_scopes p 0 partition.splits)) (numbered_rise 0 (split_scopes p 0 partition.splits)))

  -- they are splits
  pub live_below : Each (λ l. l.split < length partition.splits) (live_splits request p partition)
  live_below =
      let long = length_scopes p 0 partition.splits in
      each_filter (λ l. l.split < length partition.splits) (λ (live : LiveSplit). is_live request live.scope) (numbered 0 (split_scopes p 0 partition.splits))
      (each_map (λ t. t.0 < length partition.splits) (λ l. l.split < length partition.splits) as_live (λ t less. less) (enumerate_from 0 (split_scopes p 0 partition.splits))
      (numbered_below 0 (length partition.splits) (split_scopes p 0 partition.splits) (omega (arith, long))))

  -- of this partition
  pub live_of : Each (λ l. l.scope.file_ordinal ≡ p) (live_splits request p partition)
  live_of =
      each_filter (λ l. l.scope.file_ordinal ≡ p) (λ (live : LiveSplit). is_live request live.scope) (numbered 0 (split_scopes p 0 partition.splits))
      (each_map (λ t. t.1.file_ordinal ≡ p) (λ l. l.scope.file_ordinal ≡ p) as_live (λ t same. same) (enumerate_from 0 (split_scopes p 0 partition.splits))
      (numbered_each (λ s. s.file_ordinal ≡ p) 0 (split_scopes p 0 partition.splits) (of_partition p 0 partition.splits)))

module _ (columns : List ColumnDesc) (request : ScanRequest) where
  abbrev names : List (List ℕ)
  names = names_in columns request.projection request.filter

  -- needed columns rise
  pub needed_rises : Rising (λ c d. c < d) (needed_columns columns request)
  needed_rises =
      rising_map (λ s t. s.0 < t.0) (λ c d. c < d) (λ (x : ℕ × ColumnDesc). x.0) (λ s t less. less) (filter (λ x. is_needed names x.1) (enumerate_from 0 columns))
      (rising_filter (λ s t. s.0 < t.0) (λ x. is_needed names x.1) (enumerate_from 0 columns) (numbered_rise 0 columns))

  -- they are columns
  pub needed_below : Each (λ c. c < length columns) (needed_columns columns request)
  needed_below =
      each_map (λ t. t.0 < length columns) (λ c. c < length columns) (λ (x : ℕ × ColumnDesc). x.0) (λ t less. less) (filter (λ x. is_needed names x.1) (enumerate_from 0 columns))
      (each_filter (λ t. t.0 < length columns) (λ x. is_needed names x.1) (enumerate_from 0 columns) (numbered_below 0 (length columns) columns (omega arith)))

-- ---- seats

module _ (needed : List ℕ) where
  -- the seat of a live split
  abbrev pub seat_of : List ℕ → ℕ → LiveSplit → Seat
  seat_of path next live = record { place = path ++ next ∷ []; scope = live.scope; targets = chunks_of live.split needed; over_none = chunks_of live.split needed; fresh = has_targets (chunks_of live.split needed) }

  abbrev pub seats_on : List ℕ → ℕ → List LiveSplit → List Seat
  seats_on path next [] = []
  seats_on path next (live ∷ rest) = seat_of path next live ∷ seats_on path (next + 1) rest

  -- those of a plan
  pub plan_seats : (path : List ℕ) (next : ℕ) (live : List LiveSplit) → planned_seats path next (morsels_of needed live) (morsels_of needed live) ≡ seats_on path next live
  plan_seats path next [] = refl
  plan_seats path next (l ∷ live) = ap (λ rest. seat_of path next l ∷ rest) (plan_seats path (next + 1) live)

  -- what holds of each live split holds of its seat
  pub each_seat : (path : List ℕ) (P : LiveSplit → Type 0) (Q : Seat → Type 0) → ((next : ℕ) (l : LiveSplit) → P l → Q (seat_of path next l)) → (next : ℕ) (live : List LiveSplit) → Each P live → AllByRecursion Q (seats_on path next live)
  each_seat path P Q f next [] all = tt
  each_seat path P Q f next (l ∷ live) all = (f next l all.0, each_seat path P Q f (next + 1) live all.1)

  -- and back
  pub seat_each : (path : List ℕ) (Q : Seat → Type 0) (P : LiveSplit → Type 0) → ((next : ℕ) (l : LiveSplit) → Q (seat_of path next l) → P l) → (next : ℕ) (live : List LiveSplit) → AllByRecursion Q (seats_on path next live) → Each P live
  seat_each path Q P f next [] all = tt
  seat_each path Q P f next (l ∷ live) all = (f next l all.0, seat_each path Q P f (next + 1) live all.1)

  -- all that may be fetched for them
  pub targets_on : (path : List ℕ) (next : ℕ) (live : List LiveSplit) → targets_of (seats_on path next live) ≡ flat_map (λ (l : LiveSplit). chunks_of l.split needed) live
  targets_on path next [] = refl
  targets_on path next (l ∷ live) = ap (λ rest. chunks_of l.split needed ++ rest) (targets_on path (next + 1) live)

  -- ---- each chunk once

  other_split : (split column s c : ℕ) → (s ≡ split → ⊥) → is_chunk split column (target.Chunk s c) ≡ false
  other_split split column s c apart = by (is_chunk split column (target.Chunk s c)) refl
    where
      by : (b : Bool) → is_chunk split column (target.Chunk s c) ≡ b → b ≡ false
      by true e = absurd (apart (same_number s split (both_true (eqb s split) (eqb c column) e).0))
      by false e = refl

  -- a split's chunks lack those of another split
  none_elsewhere : (split column s : ℕ) (list : List ℕ) → (s ≡ split → ⊥) → count_by (is_chunk split column) (chunks_of s list) ≡ 0
  none_elsewhere split column s list apart = count_map (is_chunk split column) (target.Chunk s) list ∙ none_count (λ c. is_chunk split column (target.Chunk s c)) list (all list)
    where
      all : (rest : List ℕ) → Each (λ c. is_chunk split column (target.Chunk s c) ≡ false) rest
      all [] = tt
      all (c ∷ rest) = (other_split split column s c apart, all rest)

  none_behind : (split column : ℕ) (live : List LiveSplit) → Each (λ l. l.split ≡ split → ⊥) live → count_by (is_chunk split column) (flat_map (λ (l : LiveSplit). chunks_of l.split needed) live) ≡ 0
  none_behind split column [] all = refl
  none_behind split column (l ∷ live) all =
      let both = count_join (is_chunk split column) (chunks_of l.split needed) (flat_map (λ (m : LiveSplit). chunks_of m.split needed) live) in
      let first = none_elsewhere split column l.split needed all.0 in
      let rest = none_behind split column live all.1 in
      omega (arith, both, first, rest)

  once_here : Rising (λ c d. c < d) needed → (split column s : ℕ) → count_by (is_chunk split column) (chunks_of s needed) ≤ 1
  once_here rise split column s =
      let counted = count_map (is_chunk split column) (target.Chunk s) needed in
      let one = once (λ c. is_chunk split column (target.Chunk s c)) (λ c d. c < d)
      (λ c d less e f.
      let p = same_number c column (both_true (eqb s split) (eqb c column) e).1 in
      let q = same_number d column (both_true (eqb s split) (eqb d column) f).1 in
      omega (arith, less, p, q)) needed rise in
      omega (arith, counted, one)

  -- no chunk stands twice among those of live splits that rise
  pub chunks_once : Rising (λ c d. c < d) needed → (split column : ℕ) (live : List LiveSplit) → Rising (λ l m. l.split < m.split) live → count_by (is_chunk split column) (flat_map (λ (l : LiveSplit). chunks_of l.split needed) live) ≤ 1
  chunks_once rise split column [] up = omega arith
  chunks_once rise split column (l ∷ live) up = by (eqb l.split split) refl (chunks_once rise split column live up.1)
    where
      both : count_by (is_chunk split column) (chunks_of l.split needed ++ flat_map (λ (m : LiveSplit). chunks_of m.split needed) live)
          ≡ count_by (is_chunk split column) (chunks_of l.split needed) + count_by (is_chunk split column) (flat_map (λ (m : LiveSplit). chunks_of m.split needed) live)
      both = count_join (is_chunk split column) (chunks_of l.split needed) (flat_map (λ (m : LiveSplit). chunks_of m.split needed) live)

      by : (b : Bool) → eqb l.split split ≡ b → count_by (is_chunk split column) (flat_map (λ (m : LiveSplit). chunks_of m.split needed) live) ≤ 1
          → count_by (is_chunk split column) (flat_map (λ (m : LiveSplit). chunks_of m.split needed) (l ∷ live)) ≤ 1
      by true e rest =
          let same = same_number l.split split e in
          let none = none_behind split column live (each_more (λ m. l.split < m.split) (λ m. m.split ≡ split → ⊥) (λ m less is. omega (arith, less, is, same)) live up.0) in
          let one = once_here rise split column l.split in
          omega (arith, both, none, one)
      by false e rest =
          let none = none_elsewhere split column l.split needed (λ is. let own : eqb l.split split ≡ true = grind (arith, is) in let clash : true ≡ false = sym own ∙ e in cc) in
          omega (arith, both, none, rest)
