-- How the entries of a builder are found again.
use Rattle.std.specs.Prelude.{◌≡◌, ◌<◌, ◌≤◌, ◌+◌, ◌-◌, ◌++◌, ◌∷◌, ℕ, Bool, true, false, List, [], length, Option, Some, None, slice_index_or}
use Rattle.std.specs.declared.hash.FoldHasher.{FoldHasher}
use Rattle.std.specs.Hash.FoldHasher as folding
use Rattle.vortex_array_kinds.specs.Parts.{PlainParts, StringParts}
use Rattle.vortex_array_kinds.specs.Pushed.{Grows, with_row}
use Rattle.vortex_array_kinds.specs.Validities.{valid_at}
use Rattle.vortex_array_kinds.specs.declared.validity.Validity.{Validity}

-- of n rows under a validity the one at the place is null and no other is, or none is
abbrev pub NullAt : Validity → ℕ → Option ℕ → Type 0
NullAt v n None = (p : ℕ) → p < n → valid_at v p ≡ true
NullAt v n (Some place) = (place < n) × (valid_at v place ≡ false) × ((p : ℕ) → p < n → (p ≡ place → ⊥) → valid_at v p ≡ true)

-- each item that is a value is found at its place, and where a place is found there is such an item
pub record FindsItems {X : Type 0} (same : X → X → Bool) (items : List X) (v : Validity) (found : X → Option ℕ) : Type 0 where
  pub listed : (x d : X) (p : ℕ) → p < length items → valid_at v p ≡ true → same x (slice_index_or items p d) ≡ true → found x ≡ Some p
  pub within : (x : X) (p : ℕ) → found x ≡ Some p → p < length items
  pub valid : (x : X) (p : ℕ) → found x ≡ Some p → valid_at v p ≡ true
  pub there : (x d : X) (p : ℕ) → found x ≡ Some p → same x (slice_index_or items p d) ≡ true

-- a validity that grows with the items, and the place of the null entry
pub record HasNull {X : Type 0} (items : List X) (v : Validity) (null : Option ℕ) : Type 0 where
  pub grows : Grows v (length items)
  pub at : NullAt v (length items) null

-- a list is found at a place: it is there, and no null
pub record IsAt (lists : List (List ℕ)) (v : Validity) (bytes : List ℕ) (p : ℕ) : Type 0 where
  pub within : p < length lists
  pub valid : valid_at v p ≡ true
  pub here : slice_index_or lists p [] ≡ bytes

-- no two lists that are entries are equal
abbrev pub ListsDiffer : List (List ℕ) → Validity → Type 0
ListsDiffer lists v = (i j : ℕ) → i < length lists → j < length lists → valid_at v i ≡ true → valid_at v j ≡ true → slice_index_or lists i [] ≡ slice_index_or lists j [] → i ≡ j

-- an entry that is a list of this hash
pub record HasHash (hash : List ℕ → ℕ) (lists : List (List ℕ)) (v : Validity) (h p : ℕ) : Type 0 where
  pub within : p < length lists
  pub valid : valid_at v p ≡ true
  pub same : hash (slice_index_or lists p []) ≡ h

-- the places from a number on, of which 1 is the first, up to another, have no list of this hash
abbrev pub NoneBetween : (List ℕ → ℕ) → List (List ℕ) → Validity → ℕ → ℕ → ℕ → Type 0
NoneBetween hash lists v h from to = (p : ℕ) → from ≤ p → p < to → HasHash hash lists v h p → ⊥

-- a number names the newest entry of a hash below a place: it is 1 above its place, or 0 where there is none
pub record IsNewest (hash : List ℕ → ℕ) (lists : List (List ℕ)) (v : Validity) (h below number : ℕ) : Type 0 where
  pub within : number ≤ below
  pub here : 0 < number → HasHash hash lists v h (number - 1)
  pub none : NoneBetween hash lists v h number below

-- a list is looked for along a chain: a number names the entry that comes next, and none of those behind it is the list
pub record Walks (hash : List ℕ → ℕ) (lists : List (List ℕ)) (v : Validity) (bytes : List ℕ) (number : ℕ) : Type 0 where
  pub within : number ≤ length lists
  pub here : 0 < number → HasHash hash lists v (hash bytes) (number - 1)
  pub none : (p : ℕ) → number ≤ p → IsAt lists v bytes p → ⊥

-- a place as a number: 1 above it, or 0 where there is none
abbrev pub number_of : Option ℕ → ℕ
number_of None = 0
number_of (Some place) = place + 1

-- the newest entry of each hash is known, and of each entry the next older one of its hash
pub record Chained (hash : List ℕ → ℕ) (lists : List (List ℕ)) (v : Validity) (newest_at : ℕ → Option ℕ) (olders : List ℕ) : Type 0 where
  pub long : length olders ≡ length lists
  pub newest : (h : ℕ) → IsNewest hash lists v h (length lists) (number_of (newest_at h))
  pub older : (p : ℕ) → p < length lists → valid_at v p ≡ true → IsNewest hash lists v (hash (slice_index_or lists p [])) p (slice_index_or olders p 0)

-- no entry that is a value is this item
abbrev pub NoItem : {X : Type 0} → (X → X → Bool) → List X → Validity → X → Type 0
NoItem {X} same items v x = (p : ℕ) (d : X) → p < length items → valid_at v p ≡ true → same x (slice_index_or items p d) ≡ true → ⊥

-- the entry at the place is a value, and this item
pub record IsItem {X : Type 0} (same : X → X → Bool) (items : List X) (v : Validity) (x : X) (p : ℕ) : Type 0 where
  pub within : p < length items
  pub valid : valid_at v p ≡ true
  pub here : (d : X) → same x (slice_index_or items p d) ≡ true

-- no entry is null
abbrev pub AllPresent : {X : Type 0} → List X → Validity → Type 0
AllPresent items v = (p : ℕ) → p < length items → valid_at v p ≡ true

-- the entry at the place is null
pub record IsNullAt {X : Type 0} (items : List X) (v : Validity) (p : ℕ) : Type 0 where
  pub within : p < length items
  pub null : valid_at v p ≡ false

-- the hash of a list of bytes
abbrev pub hash_number : FoldHasher → List ℕ → ℕ
hash_number hasher bytes = folding.finish (folding.write hasher bytes)

-- no entry is this list
abbrev pub NowhereAt : List (List ℕ) → Validity → List ℕ → Type 0
NowhereAt lists v bytes = (p : ℕ) → IsAt lists v bytes p → ⊥

-- one more list, which is an entry or stands for null
abbrev pub with_string : PlainParts StringParts → List ℕ → Bool → PlainParts StringParts
with_string e bytes present = record { values = record { kind = e.values.kind; lists = e.values.lists ++ bytes ∷ [] }; validity = with_row present e.validity }
