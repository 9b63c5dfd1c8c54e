-- The order of keys, and the ready item with the least one.
use Rattle.std.specs.Prelude.{◌≡◌, ℕ, ◌<◌, List, [], ◌∷◌, ◌++◌, Bool, true, false, ◌||◌, ◌&&◌, ltb, eqb, Option, None, Some, slice_get}
use Rattle.vortex_scan.specs.declared.item.Item.{Item}

-- lexicographic order: a list stands before its extensions
abbrev pub key_less : List ℕ → List ℕ → Bool
key_less xs [] = false
key_less [] (y ∷ ys) = true
key_less (x ∷ xs) (y ∷ ys) = ltb x y || (eqb x y && key_less xs ys)

-- the key of an item: its path followed by its next child number
abbrev pub key : {W : Type 0} → Item W → List ℕ
key item = item.path ++ item.next ∷ []

-- an item is ready, and no ready item has a lesser key
pub record IsLeastReady {W : Type 0} (items : List (Item W)) (at : ℕ) (item : Item W) : Type 0 where
  pub there : slice_get items at ≡ Some item
  pub ready : item.ready ≡ true
  pub least : (j : ℕ) (other : Item W) → slice_get items j ≡ Some other → other.ready ≡ true → key_less (key other) (key item) ≡ false

-- the same among the first n items
pub record IsLeastBelow {W : Type 0} (items : List (Item W)) (n at : ℕ) (item : Item W) : Type 0 where
  pub there : slice_get items at ≡ Some item
  pub ready : item.ready ≡ true
  pub least : (j : ℕ) → j < n → (other : Item W) → slice_get items j ≡ Some other → other.ready ≡ true → key_less (key other) (key item) ≡ false

abbrev pub NoneBelow : {W : Type 0} → List (Item W) → ℕ → Type 0
NoneBelow {W} items n = (j : ℕ) → j < n → (other : Item W) → slice_get items j ≡ Some other → other.ready ≡ false

-- what is known once the first n items were read
abbrev pub LeastOf : {W : Type 0} → List (Item W) → ℕ → Option ℕ → Type 0
LeastOf items n None = NoneBelow items n
LeastOf {W} items n (Some at) = (at < n) × ((item : Item W) × IsLeastBelow items n at item)
