-- The chosen rows ascend by place.
use Rattle.std.proofs.Common.{◌≡◌, refl, ℕ, ◌+◌, ◌<◌, ◌≤◌, List, [], ◌∷◌, map, arith, inl, inr}
use Rattle.std.specs.Prelude.{filter, flat_map}
use Rattle.std.specs.List.{enumerate_from}
use Rattle.vortex_array_types.specs.Cells.{Row}
use Rattle.vortex_table_types.specs.Chosen.{Placed, chosen, is_chosen, projected, placed_rows, all_rows}
use Rattle.vortex_table_types.specs.Laws.{StandsBefore, ChosenAscend}
use Rattle.vortex_table_types.proofs.Rising.{Each, Rising, pairs, each_more, each_append, rising_map, rising_filter, rising_append, numbered_rise}

-- a numbered row of partition p, with its place
abbrev placed : ℕ → ℕ × Row → Placed
placed p x = record { partition = p; row = x.0; values = x.1 }

-- the rows of a partition ascend by place
part_rises : (p : ℕ) (rows : List Row) → Rising StandsBefore (placed_rows p rows)
part_rises p rows = rising_map (λ s t. s.0 < t.0) StandsBefore (placed p) (λ s t h. inr (refl, h)) (enumerate_from 0 rows) (numbered_rise 0 rows)

-- they name the partition
pub part_is : (p n : ℕ) (rows : List Row) → Each (λ x. x.partition ≡ p) (map (placed p) (enumerate_from n rows))
part_is p n [] = tt
part_is p n (r ∷ rows) = (refl, part_is p (n + 1) rows)

-- the rows of the partitions, the first of which has number p
abbrev pub parts : ℕ → List (List Row) → List Placed
parts p partitions = flat_map (λ x. placed_rows x.0 x.1) (enumerate_from p partitions)

-- they name no partition before p
pub parts_from : (q p : ℕ) (partitions : List (List Row)) → q ≤ p → Each (λ x. q ≤ x.partition) (parts p partitions)
parts_from q p [] h = tt
parts_from q p (rows ∷ partitions) h =
    each_append (λ x. q ≤ x.partition) (placed_rows p rows) (parts (p + 1) partitions)
    (each_more (λ x. x.partition ≡ p) (λ x. q ≤ x.partition) (λ x e. omega (arith, e, h)) (placed_rows p rows) (part_is p 0 rows))
    (parts_from q (p + 1) partitions (omega arith))

-- and ascend by place
parts_rise : (p : ℕ) (partitions : List (List Row)) → Rising StandsBefore (parts p partitions)
parts_rise p [] = tt
parts_rise p (rows ∷ partitions) =
    rising_append StandsBefore (placed_rows p rows) (parts (p + 1) partitions) (part_rises p rows) (parts_rise (p + 1) partitions)
    (each_more (λ x. x.partition ≡ p) (λ x. Each (StandsBefore x) (parts (p + 1) partitions))
    (λ x e. each_more (λ y. p + 1 ≤ y.partition) (StandsBefore x) (λ y h. inl (omega (arith, e, h))) (parts (p + 1) partitions) (parts_from (p + 1) (p + 1) partitions (omega arith)))
    (placed_rows p rows) (part_is p 0 rows))

-- the chosen rows ascend by place
pub ascend : ChosenAscend
ascend request table =
    pairs StandsBefore (chosen request table)
    (rising_map StandsBefore StandsBefore (projected table.columns request.projection) (λ x y h. h) (filter (is_chosen request table.columns) (all_rows table.partitions))
    (rising_filter StandsBefore (is_chosen request table.columns) (all_rows table.partitions) (parts_rise 0 table.partitions)))
