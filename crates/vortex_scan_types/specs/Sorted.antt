-- Lists that increase strictly, and where a list stops to do so.
use Rattle.std.specs.Prelude.{◌≡◌, ◌≢◌, ℕ, ◌+◌, ◌-◌, ◌<◌, List, ◌++◌, length, slice_index_or, codes}
use Rattle.std.specs.Fmt.{decimal}
use Rattle.std.specs.declared.cmp.Ordering.{Ordering}
use Rattle.std.specs.declared.cmp.Ordering.TheVariants.{Less}

-- below place n, each item is less than the next
abbrev pub IncreasesBelow : {X : Type 0} → (X → X → Ordering) → List X → ℕ → Type 0
IncreasesBelow {X} cmp xs n = (k : ℕ) (d : X) → k + 1 < n → cmp (slice_index_or xs k d) (slice_index_or xs (k + 1) d) ≡ Less

-- each item is less than the next
abbrev pub Increases : {X : Type 0} → (X → X → Ordering) → List X → Type 0
Increases cmp xs = IncreasesBelow cmp xs (length xs)

-- the item before place i is not less than the one there
abbrev pub DescendsAt : {X : Type 0} → (X → X → Ordering) → List X → ℕ → Type 0
DescendsAt {X} cmp xs i = (d : X) → cmp (slice_index_or xs (i - 1) d) (slice_index_or xs i d) ≢ Less

-- the items increase strictly up to the first place, and not from there to the second
pub record FirstDescent {X : Type 0} (cmp : X → X → Ordering) (xs : List X) (first second : ℕ) : Type 0 where
  pub next : second ≡ first + 1
  pub within : second < length xs
  pub before : IncreasesBelow cmp xs second
  pub here : DescendsAt cmp xs second

-- what is said of two neighbours that do not increase strictly
abbrev pub refusal_text : ℕ → ℕ → List ℕ
refusal_text first second = codes "buffer values must be strictly increasing at positions " ++ (decimal first ++ (codes " and " ++ decimal second))
