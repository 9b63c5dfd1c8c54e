-- The value of a row of one column, under that column's name.
use Rattle.std.proofs.Common.{◌≡◌, ◌∙◌, ap, sym, ℕ, ◌<◌, ◌≤◌, List, [], ◌∷◌, Option, None, length, get_or, cond, true, arith}
use Rattle.std.specs.Str.{bytes_eq}
use Rattle.vortex_array_types.specs.Cells.{cell_of}
use Rattle.vortex_array_types.specs.declared.column.ColumnDesc.{ColumnDesc}
use Rattle.vortex_array_types.specs.declared.scalar.Value.{Value}

-- a list of one item is that item
pub only_item : {X : Type 0} (xs : List X) (x : X) → 1 ≤ length xs → length xs < 2 → x ≡ get_or xs 0 x → xs ≡ x ∷ []
only_item [] x l m e = absurd (omega (arith, l))
only_item (y ∷ []) x l m e = ap (λ z. z ∷ []) (sym e)
only_item (y ∷ z ∷ zs) x l m e = absurd (omega (arith, m))

-- the one value stands under the one column's name
pub own_cell : (columns : List ColumnDesc) (column : ColumnDesc) (name : List ℕ) (v : Option Value) → columns ≡ column ∷ [] → bytes_eq column.name name ≡ true → cell_of columns (v ∷ []) name ≡ v
own_cell columns column name v e h = ap (λ cs. cell_of cs (v ∷ []) name) e ∙ ap (λ b. cond b v None) h
