-- One turn of the walks over rows and over partitions.
use Rattle.std.proofs.Common.{◌≡◌, ◌∙◌, sym, ap, ℕ, suc, ◌+◌, ◌<◌, List, [], ◌∷◌, ◌++◌, Bool, true, false, cond, length, get_or, drop, map, append_assoc, add-one, arith, ◌-◌}
use Rattle.std.specs.Prelude.{filter, flat_map}
use Rattle.std.specs.List.{enumerate_from, range_with_len}
use Rattle.std.proofs.Math.Seq.{drop-cons}
use Rattle.std.proofs.lemmas.List.{map-append}
use Rattle.std.proofs.lemmas.List.Elements.{filter-append}
use Rattle.vortex_array_types.specs.declared.column.ColumnDesc.{ColumnDesc}
use Rattle.vortex_scan_types.specs.declared.request.ScanRequest.{ScanRequest}
use Rattle.vortex_array_types.specs.Cells.{Row, cell_of}
use Rattle.vortex_table_types.specs.Chosen.{Placed, is_chosen, projected, projected_names, placed_rows}
use Rattle.vortex_judge.specs.Steps.{chosen_part}

-- the list from place i on begins with what stands there
pub drop_opens : {X : Type 0} (xs : List X) (i : ℕ) (x : X) → i < length xs → x ≡ get_or xs i x → drop i xs ≡ x ∷ drop (i + 1) xs
drop_opens xs i x h e = drop-cons xs i x h ∙ ap (λ y. y ∷ drop (suc i) xs) (sym e) ∙ ap (λ n. x ∷ drop n xs) (sym (add-one i))

module _ (request : ScanRequest) (columns : List ColumnDesc) (p : ℕ) where
  abbrev place : ℕ → Row → Placed
  place i row = record { partition = p; row = i; values = row }

  abbrev behind : ℕ → List Row → List Placed
  behind i rest = filter (is_chosen request columns) (map (λ x. place x.0 x.1) (enumerate_from (i + 1) rest))

  from_here : (rows : List Row) (i : ℕ) (x v : Row) → i < length rows → x ≡ get_or rows i x → v ≡ x → drop i rows ≡ v ∷ drop (i + 1) rows
  from_here rows i x v h e f = drop_opens rows i x h e ∙ ap (λ y. y ∷ drop (i + 1) rows) (sym f)

  head : (i : ℕ) (x : Row) (rest : List Row) (b : Bool) → is_chosen request columns (place i x) ≡ b
      → chosen_part request columns p i (x ∷ rest) ≡ map (projected columns request.projection) (cond b (place i x ∷ behind i rest) (behind i rest))
  head i x rest b e = ap (λ t. map (projected columns request.projection) (cond t (place i x ∷ behind i rest) (behind i rest))) e

  pub row_kept : (list list' whole : List Placed) (i : ℕ) (rows : List Row) (x v w : Row) → i < length rows → x ≡ get_or rows i x → v ≡ x
      → is_chosen request columns (place i v) ≡ true → w ≡ map (cell_of columns v) (projected_names columns request.projection) → list' ≡ list ++ place i w ∷ []
      → list ++ chosen_part request columns p i (drop i rows) ≡ whole → list' ++ chosen_part request columns p (i + 1) (drop (i + 1) rows) ≡ whole
  row_kept list list' whole i rows x v w h e f b m l k =
      let rest : List Placed = chosen_part request columns p (i + 1) (drop (i + 1) rows) in
      let opened : chosen_part request columns p i (drop i rows) ≡ place i w ∷ rest = ap (chosen_part request columns p i) (from_here rows i x v h e f) ∙ head i v _ true b ∙ ap (λ y. place i y ∷ rest) (sym m) in
      ap (λ y. y ++ rest) l ∙ append_assoc list (place i w ∷ []) rest ∙ ap (λ y. list ++ y) (sym opened) ∙ k

  pub row_left : (list list' whole : List Placed) (i : ℕ) (rows : List Row) (x v : Row) → i < length rows → x ≡ get_or rows i x → v ≡ x
      → is_chosen request columns (place i v) ≡ false → list' ≡ list
      → list ++ chosen_part request columns p i (drop i rows) ≡ whole → list' ++ chosen_part request columns p (i + 1) (drop (i + 1) rows) ≡ whole
  row_left list list' whole i rows x v h e f b l k =
      let rest : List Placed = chosen_part request columns p (i + 1) (drop (i + 1) rows) in
      let opened : chosen_part request columns p i (drop i rows) ≡ rest = ap (chosen_part request columns p i) (from_here rows i x v h e f) ∙ head i v _ false b in
      ap (λ y. y ++ rest) l ∙ ap (λ y. list ++ y) (sym opened) ∙ k

-- one partition's rows, and then those of the others
module _ (request : ScanRequest) (columns : List ColumnDesc) where
  abbrev pub chosen_from : ℕ → List (List Row) → List Placed
  chosen_from i partitions = map (projected columns request.projection) (filter (is_chosen request columns) (flat_map (λ x. placed_rows x.0 x.1) (enumerate_from i partitions)))

  first_part : (i : ℕ) (rows : List Row) (rest : List (List Row)) → chosen_from i (rows ∷ rest) ≡ chosen_part request columns i 0 rows ++ chosen_from (i + 1) rest
  first_part i rows rest =
      let others : List Placed = flat_map (λ x. placed_rows x.0 x.1) (enumerate_from (i + 1) rest) in
      ap (map (projected columns request.projection)) (filter-append (is_chosen request columns) (placed_rows i rows) others)
      ∙ map-append (projected columns request.projection) (filter (is_chosen request columns) (placed_rows i rows)) (filter (is_chosen request columns) others)

  pub partition_done : (list list' whole : List Placed) (i : ℕ) (partitions : List (List Row)) (x v : List Row) → i < length partitions → x ≡ get_or partitions i x → v ≡ x
      → list' ≡ list ++ chosen_part request columns i 0 v → list ++ chosen_from i (drop i partitions) ≡ whole → list' ++ chosen_from (i + 1) (drop (i + 1) partitions) ≡ whole
  partition_done list list' whole i partitions x v h e f l k =
      let rest : List Placed = chosen_from (i + 1) (drop (i + 1) partitions) in
      let opened : chosen_from i (drop i partitions) ≡ chosen_part request columns i 0 v ++ rest = ap (chosen_from i) (drop_opens partitions i x h e ∙ ap (λ y. y ∷ drop (i + 1) partitions) (sym f)) ∙ first_part i v (drop (i + 1) partitions) in
      ap (λ y. y ++ rest) l ∙ append_assoc list (chosen_part request columns i 0 v) rest ∙ ap (λ y. list ++ y) (sym opened) ∙ k

-- one more of the rows of a split
pub split_more : {X : Type 0} (f : ℕ → X) (list list' whole : List X) (i n : ℕ) (y : X) → i < n → y ≡ f i → list' ≡ list ++ y ∷ []
    → list ++ map f (range_with_len i (n - i)) ≡ whole → list' ++ map f (range_with_len (i + 1) (n - (i + 1))) ≡ whole
split_more {X} f list list' whole i n y h e l k =
    let rest : List X = map f (range_with_len (i + 1) (n - (i + 1))) in
    let one : n - i ≡ suc (n - (i + 1)) = omega arith in
    ap (λ z. z ++ rest) l ∙ append_assoc list (y ∷ []) rest ∙ ap (λ z. list ++ z ∷ rest) e ∙ ap (λ m. list ++ map f (range_with_len i m)) (sym one) ∙ k
