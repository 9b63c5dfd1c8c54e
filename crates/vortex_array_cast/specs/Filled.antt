-- Columns whose null rows get a value.
use Rattle.std.specs.Prelude.{ℕ, ◌/◌, ◌%◌, ◌==◌, Bool, List, [], ◌∷◌, map, cond, Option, Some, None}
use Rattle.std.specs.Simd.Lanes.{zip2}
use Rattle.vortex_array_types.specs.declared.scalar.Value.{Value}
use Rattle.vortex_array_types.specs.Row.{Column, TypedRow}

-- the row, or the fill where it is null
abbrev pub filled_row : Option Value → Option Value → Option Value
filled_row fill None = fill
filled_row fill (Some v) = Some v

-- each null row becomes the fill, and the type is the fill's
abbrev pub filled : TypedRow → Column → Column
filled fill c = record { dtype = fill.dtype; rows = map (filled_row fill.value) c.rows }

-- the items, and the fill where none is present
abbrev pub filled_items : {X : Type 0} → X → List X → List Bool → List X
filled_items fill items present = zip2 (λ x p. cond p x fill) items present

-- the items whose bit is set in a word, least significant bit first, and the fill for any other
abbrev pub filled_in : {X : Type 0} → X → ℕ → List X → List X
filled_in fill word [] = []
filled_in fill word (x ∷ xs) = cond (word % 2 == 1) x fill ∷ filled_in fill (word / 2) xs
