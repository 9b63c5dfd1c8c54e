-- The first rows of columns.
use Rattle.std.proofs.Common.{ℕ, zero, suc, ◌≤◌, List, [], ◌∷◌, length, ap, ◌∙◌, arith}
use Rattle.std.specs.Prelude.{All}
use Rattle.std.specs.List.{AllZip}
use Rattle.vortex_array_rows.proofs.Slices.{length-slice}
use Rattle.vortex_array.specs.declared.arrays.Array.{Array}
use Rattle.vortex_array.specs.Batch.{HasRows}
use Rattle.vortex_array.specs.ColumnOf.{column_of}
use Rattle.vortex_array.specs.Head.{IsHeadOf}

-- the first k rows are k
head_long : (rows k : ℕ) (whole head : Array) → HasRows rows whole → k ≤ rows → IsHeadOf k whole head → HasRows k head
head_long rows k whole head is within h =
    let long = length-slice (column_of whole).rows 0 k (omega arith) (omega (arith, is, within)) in
    ap (λ c. length c.rows) h.rows ∙ omega (arith, long)

pub heads-long : (rows k : ℕ) (columns heads : List Array) → All (HasRows rows) columns → k ≤ rows → AllZip (IsHeadOf k) columns heads → All (HasRows k) heads
heads-long rows k [] [] is within h i d l = absurd (omega (arith, l))
heads-long rows k [] (a ∷ heads) is within h i d l = absurd h
heads-long rows k (c ∷ columns) [] is within h i d l = absurd h
heads-long rows k (c ∷ columns) (a ∷ heads) is within h zero d l = head_long rows k c a (is 0 c (omega arith)) within h.0
heads-long rows k (c ∷ columns) (a ∷ heads) is within h (suc i) d l = heads-long rows k columns heads (λ j e m. is (suc j) e (omega (arith, m))) within h.1 i d (omega (arith, l))
