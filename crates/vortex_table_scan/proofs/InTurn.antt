-- The batches in turn, split by split and partition by partition.
use Rattle.std.proofs.Common.{◌≡◌, ◌∙◌, sym, ap, subst, refl, ℕ, suc, ◌+◌, ◌-◌, ◌<◌, ◌≤◌, List, [], ◌∷◌, ◌++◌, Bool, true, false, cond, length, map, take, arith}
use Rattle.std.specs.Prelude.{◌&&◌, AllPairs, None, filter, nat_lt}
use Rattle.std.specs.List.{enumerate_from}
use Rattle.std.proofs.lemmas.List.{append-nil, map-append}
use Rattle.std.proofs.lemmas.List.Elements.{filter-append}
use Rattle.vortex_array_types.specs.Cells.{Row, cell_of}
use Rattle.vortex_array_types.specs.Truth.{keeps}
use Rattle.vortex_array_types.specs.declared.column.ColumnDesc.{ColumnDesc}
use Rattle.vortex_array_types.specs.declared.types.DType.{DType}
use Rattle.vortex_scan_types.specs.Members.{in_selection, in_some_range}
use Rattle.vortex_scan_types.specs.declared.batch.WorkScope.{WorkScope}
use Rattle.vortex_scan_types.specs.declared.request.ScanRequest.{ScanRequest}
use Rattle.vortex_table_types.specs.Answers.{Answers, Asked, Given, IsBefore, count_of}
use Rattle.vortex_table_types.specs.Chosen.{Placed, is_chosen, is_partition_chosen, lies_in, placed_rows, projected, projected_types, rows_in}
use Rattle.vortex_table_types.specs.Table.{Content, partition_rows, scopes_from, split_scopes}
use Rattle.vortex_table_types.specs.Turn.{given_of, in_turn}
use Rattle.vortex_table_types.specs.declared.describe.PartitionDesc.{PartitionDesc}
use Rattle.vortex_table_types.proofs.Apart.{Past, later, of_partition, within}
use Rattle.vortex_table_types.proofs.Ascend.{part_is, parts, parts_from}
use Rattle.vortex_table_types.proofs.Rising.{Each, Rising, each_filter, each_map, each_more}
use Rattle.vortex_table_types.proofs.Tiling.{Tiles, rows_by}
use Rattle.vortex_table_types.proofs.Turning.{turns, turns_all, turns_answer}
use Rattle.vortex_table_types.proofs.Whole.{all_each}

-- the batch of these rows of a split, if there are any, and then the others
abbrev pub follow : List DType → WorkScope → List Placed → List Given → List Given
follow types s [] rest = rest
follow types s (x ∷ part) rest = given_of types s (x ∷ part) ∷ rest

positive : (n : ℕ) → nat_lt 0 (suc n) ≡ true
positive n = grind arith

module _ (types : List DType) (rows : List Placed) where
  step : (s : WorkScope) (scopes : List WorkScope) (part : List Placed) → part ≡ rows_in s rows
      → map (λ t. given_of types t (rows_in t rows)) (cond (nat_lt 0 (length part)) (s ∷ filter (λ t. nat_lt 0 (length (rows_in t rows))) scopes) (filter (λ t. nat_lt 0 (length (rows_in t rows))) scopes))
      ≡ follow types s part (in_turn types rows scopes)
  step s scopes [] e = refl
  step s scopes (x ∷ part) e =
      let others : List WorkScope = filter (λ t. nat_lt 0 (length (rows_in t rows))) scopes in
      ap (λ b. map (λ t. given_of types t (rows_in t rows)) (cond b (s ∷ others) others)) (positive (length part)) ∙ ap (λ p. given_of types s p ∷ in_turn types rows scopes) (sym e)

  -- the batch of the first split, if it has rows, comes before those of the others
  pub turn_step : (s : WorkScope) (scopes : List WorkScope) → in_turn types rows (s ∷ scopes) ≡ follow types s (rows_in s rows) (in_turn types rows scopes)
  turn_step s scopes = step s scopes (rows_in s rows) refl

  -- those of joined splits are joined
  turn_append : (xs ys : List WorkScope) → in_turn types rows (xs ++ ys) ≡ in_turn types rows xs ++ in_turn types rows ys
  turn_append xs ys =
      let test : WorkScope → Bool = λ t. nat_lt 0 (length (rows_in t rows)) in
      ap (map (λ t. given_of types t (rows_in t rows))) (filter-append test xs ys) ∙ map-append (λ t. given_of types t (rows_in t rows)) (filter test xs) (filter test ys)

  -- what holds of the batch of each split with rows holds of each batch
  pub turn_each : (Q : WorkScope → Type 0) (P : Given → Type 0) → ((s : WorkScope) → Q s → 0 < length (rows_in s rows) → P (given_of types s (rows_in s rows))) → (scopes : List WorkScope) → Each Q scopes
      → Each P (in_turn types rows scopes)
  turn_each Q P f [] all = tt
  turn_each Q P f (s ∷ scopes) all = subst (Each P) (sym (turn_step s scopes)) (by (rows_in s rows) refl (turn_each Q P f scopes all.1))
    where
      by : (part : List Placed) → part ≡ rows_in s rows → Each P (in_turn types rows scopes) → Each P (follow types s part (in_turn types rows scopes))
      by [] e rest = rest
      by (x ∷ part) e rest = (subst (λ q. P (given_of types s q)) (sym e) (f s all.0 (omega (arith, ap length e))), rest)

  -- ---- up to a limit

  pub turns_step : (n : ℕ) (s : WorkScope) (scopes : List WorkScope) (part : List Placed) → take n (rows_in s rows) ≡ part → turns types rows n (s ∷ scopes) ≡ follow types s part (turns types rows (n - length (rows_in s rows)) scopes)
  turns_step n s scopes [] e = rw e refl
  turns_step n s scopes (x ∷ part) e = rw e refl

  -- of no rows there is no batch
  pub turns_none : (scopes : List WorkScope) → turns types rows 0 scopes ≡ []
  turns_none [] = refl
  turns_none (s ∷ scopes) =
      let none : 0 - length (rows_in s rows) ≡ 0 = omega arith in
      turns_step 0 s scopes [] refl ∙ ap (λ n. turns types rows n scopes) none ∙ turns_none scopes

  -- a limit beyond all rows is none
  pub turns_within : (limit : ℕ) (scopes : List WorkScope) → Tiles scopes rows → length rows ≤ limit → turns types rows limit scopes ≡ turns types rows (length rows) scopes
  turns_within limit scopes tiles most =
      let long = ap length tiles in
      turns_all types rows limit scopes (omega (arith, long, most)) ∙ sym (turns_all types rows (length rows) scopes (omega (arith, long)))

  -- the question that all of them answer, in order
  abbrev whole : List WorkScope → Asked
  whole scopes = record { scopes = scopes; types = types; rows = rows; limit = None; ordered = true }

  turn_answers : (scopes : List WorkScope) → Rising Past scopes → Tiles scopes rows → Answers (whole scopes) (in_turn types rows scopes)
  turn_answers scopes rise tiles = subst (Answers (whole scopes)) (turns_all types rows (length rows) scopes (omega (arith, ap length tiles))) (turns_answer (whole scopes) rise tiles)

  -- together they have all rows
  pub turn_counted : (scopes : List WorkScope) → Rising Past scopes → Tiles scopes rows → count_of (in_turn types rows scopes) ≡ length rows
  turn_counted scopes rise tiles = (turn_answers scopes rise tiles).counted

  pairs_rise : {X : Type 0} (R : X → X → Type 0) (xs : List X) → AllPairs R xs → Rising R xs
  pairs_rise R [] a = tt
  pairs_rise R (x ∷ xs) a = (all_each (R x) xs (λ k d h. a 0 (suc k) d (omega arith) (omega (arith, h))), pairs_rise R xs (λ i j d l h. a (suc i) (suc j) d (omega (arith, l)) (omega (arith, h))))

  -- and they stand in order
  pub turn_rises : (scopes : List WorkScope) → Rising Past scopes → Tiles scopes rows → Rising (λ b c. IsBefore b.scope c.scope) (in_turn types rows scopes)
  turn_rises scopes rise tiles = pairs_rise (λ b c. IsBefore b.scope c.scope) (in_turn types rows scopes) ((turn_answers scopes rise tiles).in_order refl).ascending

-- of no rows there is no batch
pub turn_none : (types : List DType) (scopes : List WorkScope) → in_turn types [] scopes ≡ []
turn_none types [] = refl
turn_none types (s ∷ scopes) = turn_none types scopes

-- rows that are the same in each split make the same batches
turn_same : (types : List DType) (rows others : List Placed) (scopes : List WorkScope) → Each (λ s. rows_in s rows ≡ rows_in s others) scopes → in_turn types rows scopes ≡ in_turn types others scopes
turn_same types rows others [] same = refl
turn_same types rows others (s ∷ scopes) same =
    turn_step types rows s scopes ∙ ap (λ part. follow types s part (in_turn types rows scopes)) same.0
    ∙ ap (λ rest. follow types s (rows_in s others) rest) (turn_same types rows others scopes same.1) ∙ sym (turn_step types others s scopes)

-- ---- partition by partition

-- a row of another partition does not lie in the split
elsewhere : (s : WorkScope) (x : Placed) → (x.partition ≡ s.file_ordinal → ⊥) → lies_in s x ≡ false
elsewhere s x apart = by (lies_in s x) refl
  where
    by : (b : Bool) → lies_in s x ≡ b → b ≡ false
    by true e = absurd (apart (within s x e).there)
    by false e = refl

none_in : (s : WorkScope) (xs : List Placed) → Each (λ x. lies_in s x ≡ false) xs → rows_in s xs ≡ []
none_in s [] none = refl
none_in s (x ∷ xs) none = ap (λ b. cond b (x ∷ rows_in s xs) (rows_in s xs)) none.0 ∙ none_in s xs none.1

module _ (columns : List ColumnDesc) (request : ScanRequest) where
  -- the chosen ones of these rows, each with its projected values
  abbrev pub chosen_of : List Placed → List Placed
  chosen_of xs = map (projected columns request.projection) (filter (is_chosen request columns) xs)

  chosen_append : (xs ys : List Placed) → chosen_of (xs ++ ys) ≡ chosen_of xs ++ chosen_of ys
  chosen_append xs ys =
      ap (map (projected columns request.projection)) (filter-append (is_chosen request columns) xs ys)
      ∙ map-append (projected columns request.projection) (filter (is_chosen request columns) xs) (filter (is_chosen request columns) ys)

  -- what holds of the partition of each row holds so of the chosen ones
  chosen_each : (P : ℕ → Type 0) (xs : List Placed) → Each (λ x. P x.partition) xs → Each (λ x. P x.partition) (chosen_of xs)
  chosen_each P xs all =
      each_map (λ x. P x.partition) (λ x. P x.partition) (projected columns request.projection) (λ x p. p) (filter (is_chosen request columns) xs) (each_filter (λ x. P x.partition) (is_chosen request columns) xs all)

  -- a partition that is not chosen has no chosen row
  unchosen : (p n : ℕ) (rows : List Row) → is_partition_chosen request p ≡ false → filter (is_chosen request columns) (map (λ x. record { partition = p; row = x.0; values = x.1 }) (enumerate_from n rows)) ≡ []
  unchosen p n [] out = refl
  unchosen p n (row ∷ rows) out =
      let no_row : is_chosen request columns (record { partition = p; row = n; values = row }) ≡ false =
      ap (λ (b : Bool). (b && in_some_range request.row_range n && in_selection request.selection n) && keeps request.filter (cell_of columns row)) out in
      rw no_row (unchosen p (n + 1) rows out)

  -- the batches in turn of partition p
  abbrev pub part_turn : ℕ → PartitionDesc → Content → List Given
  part_turn p partition content = in_turn (projected_types columns request.projection) (chosen_of (placed_rows p (partition_rows partition content))) (split_scopes p 0 partition.splits)

  pub part_unchosen : (p : ℕ) (partition : PartitionDesc) (content : Content) → is_partition_chosen request p ≡ false → part_turn p partition content ≡ []
  part_unchosen p partition content out =
      let types : List DType = projected_types columns request.projection in
      ap (λ xs. in_turn types (map (projected columns request.projection) xs) (split_scopes p 0 partition.splits)) (unchosen p 0 (partition_rows partition content) out) ∙ turn_none types (split_scopes p 0 partition.splits)

  -- those of the partitions from p on, joined
  abbrev pub parts_turn : ℕ → List PartitionDesc → List Content → List Given
  parts_turn p [] contents = []
  parts_turn p (partition ∷ partitions) [] = []
  parts_turn p (partition ∷ partitions) (content ∷ contents) = part_turn p partition content ++ parts_turn (p + 1) partitions contents

  -- are the batches in turn of all their rows
  pub turn_parts : (p : ℕ) (partitions : List PartitionDesc) (contents : List Content)
      → in_turn (projected_types columns request.projection) (chosen_of (parts p (rows_by partitions contents))) (scopes_from p partitions) ≡ parts_turn p partitions contents
  turn_parts p [] contents = refl
  turn_parts p (partition ∷ partitions) [] = turn_none (projected_types columns request.projection) (scopes_from p (partition ∷ partitions))
  turn_parts p (partition ∷ partitions) (content ∷ contents) =
      let types : List DType = projected_types columns request.projection in
      let here : List Placed = chosen_of (placed_rows p (partition_rows partition content)) in
      let behind : List Placed = chosen_of (parts (p + 1) (rows_by partitions contents)) in
      let first : List WorkScope = split_scopes p 0 partition.splits in
      let others : List WorkScope = scopes_from (p + 1) partitions in
      let above : Each (λ x. p + 1 ≤ x.partition) behind = chosen_each (λ q. p + 1 ≤ q) (parts (p + 1) (rows_by partitions contents)) (parts_from (p + 1) (p + 1) (rows_by partitions contents) (omega arith)) in
      let of_p : Each (λ x. x.partition ≡ p) here = chosen_each (λ q. q ≡ p) (placed_rows p (partition_rows partition content)) (part_is p 0 (partition_rows partition content)) in
      ap (λ rows. in_turn types rows (first ++ others)) (chosen_append (placed_rows p (partition_rows partition content)) (parts (p + 1) (rows_by partitions contents)))
      ∙ turn_append types (here ++ behind) first others
      ∙ ap (λ list. list ++ in_turn types (here ++ behind) others)
      (turn_same types (here ++ behind) here first
      (each_more (λ s. s.file_ordinal ≡ p) (λ s. rows_in s (here ++ behind) ≡ rows_in s here)
      (λ s e. filter-append (lies_in s) here behind ∙ ap (λ list. rows_in s here ++ list)
      (none_in s behind (each_more (λ x. p + 1 ≤ x.partition) (λ x. lies_in s x ≡ false) (λ x h. elsewhere s x (λ same. omega (arith, h, e, same))) behind above)) ∙ append-nil (rows_in s here))
      first (of_partition p 0 partition.splits)))
      ∙ ap (λ list. in_turn types here first ++ list)
      (turn_same types (here ++ behind) behind others
      (each_more (λ s. p + 1 ≤ s.file_ordinal) (λ s. rows_in s (here ++ behind) ≡ rows_in s behind)
      (λ s h. filter-append (lies_in s) here behind ∙ ap (λ list. list ++ rows_in s behind)
      (none_in s here (each_more (λ x. x.partition ≡ p) (λ x. lies_in s x ≡ false) (λ x e. elsewhere s x (λ same. omega (arith, h, e, same))) here of_p)))
      others (later (p + 1) (p + 1) partitions (omega arith)))
      ∙ turn_parts (p + 1) partitions contents)
