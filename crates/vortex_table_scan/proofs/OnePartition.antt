-- A partition of a table makes a table by itself.
use Rattle.std.proofs.Common.{◌≡◌, ap, subst, refl, ℕ, zero, suc, ◌≤◌, List, [], ◌∷◌, length, arith}
use Rattle.std.specs.Prelude.{Some, slice_get, sum_by}
use Rattle.std.proofs.lemmas.List.Sums.{sum_by-cons}
use Rattle.vortex_array_types.specs.declared.column.ColumnDesc.{ColumnDesc}
use Rattle.vortex_table_types.specs.Described.{AllFit, IsDescribed, rows_of}
use Rattle.vortex_table_types.specs.declared.describe.PartitionDesc.{PartitionDesc}
use Rattle.vortex_table_types.proofs.Rising.{Each, each_at}
use Rattle.vortex_table_types.proofs.Whole.{all_each}

-- a part of a sum is no more than the sum
pub part_of_sum : {X : Type 0} (f : X → ℕ) (xs : List X) (i : ℕ) (x : X) → slice_get xs i ≡ Some x → f x ≤ sum_by f xs
part_of_sum f [] i x e = absurd (cc)
part_of_sum f (y ∷ xs) zero x e = let same : y ≡ x = (cc) in let fs = ap f same in let all = sum_by-cons f y xs in omega (arith, fs, all)
part_of_sum f (y ∷ xs) (suc i) x e = let less = part_of_sum f xs i x e in let all = sum_by-cons f y xs in omega (arith, less, all)

each_there : {X : Type 0} (P : X → Type 0) (xs : List X) (i : ℕ) (x : X) → Each P xs → slice_get xs i ≡ Some x → P x
each_there P [] i x all e = absurd (cc)
each_there P (y ∷ xs) zero x all e = let same : y ≡ x = (cc) in subst P same all.0
each_there P (y ∷ xs) (suc i) x all e = each_there P xs i x all.1 e

pub one_described : (columns : List ColumnDesc) (partitions : List PartitionDesc) (sources p : ℕ) (partition : PartitionDesc) → IsDescribed columns partitions sources → slice_get partitions p ≡ Some partition → IsDescribed columns (partition ∷ []) 1
one_described columns partitions sources p partition d there = record {
  names = d.names;
  paired = refl;
  fits = each_at (AllFit columns) (partition ∷ []) (each_there (AllFit columns) partitions p partition (all_each (AllFit columns) partitions d.fits) there, tt);
  counted = record {
    rows = let less = part_of_sum rows_of partitions p partition there in let most = d.counted.rows in omega (arith, less, most);
    steps =
        let less = part_of_sum (λ (q : PartitionDesc). length q.splits) partitions p partition there in
        let some = part_of_sum (λ (q : PartitionDesc). 1) partitions p partition there in
        let ones = counted_ones partitions in
        let most = d.counted.steps in
        omega (arith, less, some, ones, most);
  };
}
  where
    counted_ones : (list : List PartitionDesc) → sum_by (λ (q : PartitionDesc). 1) list ≡ length list
    counted_ones [] = refl
    counted_ones (q ∷ list) = let rest = counted_ones list in let all = sum_by-cons (λ (other : PartitionDesc). 1) q list in omega (arith, rest, all)
