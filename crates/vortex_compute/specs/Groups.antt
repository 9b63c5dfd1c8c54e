use Rattle.std.specs.Prelude.{ℕ, ◌+◌, ◌<◌, ◌≡◌, Bool, false, cond, List, ◌++◌, length, take, drop, map, Option, is_none, unwrap_or}
use Rattle.std.specs.List.{AllZip}
use Rattle.vortex_compute.specs.Answers.{fails_at}
use Rattle.std.specs.Simd.Lanes.{mask_l, zip2}
use Rattle.vortex_compute.specs.InOrder.{InOrder}

-- What the private functions over one group of lanes, at most 64, leave to the kernels that call them.

-- of the lanes from start on, count of them, valid ones hold their answer, and null ones the default d; what lies before stayed
pub record ValidGroup {X R : Type 0} (P : X → R → Type 0) (d : R) (lanes : List X) (mask : List Bool) (start count : ℕ) (old new : List R) : Type 0 where
  pub answers : List R
  pub each : AllZip P (take count (drop start lanes)) answers
  pub written : take (start + count) new ≡ take start old ++ zip2 (λ valid answer. cond valid answer d) (take count (drop start mask)) answers

-- the answers to a group of lanes: their values, written from start on, and as a word which of them are none
pub record TriedGroup {X R : Type 0} (P : X → Option R → Type 0) (d : R) (lanes : List X) (start count : ℕ) (old new : List R) (word : ℕ) : Type 0 where
  pub answers : List (Option R)
  pub each : AllZip P lanes answers
  pub none_is : word ≡ mask_l (map is_none answers)
  pub written : take (start + count) new ≡ take start old ++ map (λ answer. unwrap_or answer d) answers

-- the word has the answers to a group of lanes as its bits, least significant first, and no other bit
pub record PackedGroup {X : Type 0} (P : X → Bool → Type 0) (lanes : List X) (word : ℕ) : Type 0 where
  pub answers : List Bool
  pub each : AllZip P lanes answers
  pub word_is : word ≡ mask_l answers

-- lanes replaced where they stand: those from start on, count of them, by what their answers read back as; all others stayed
pub record InPlace {F X A : Type 0} (step : F → X → A → F → Type 0) (first : F) (back : A → X) (start count : ℕ) (old new : List X) (last : F) : Type 0 where
  pub answers : List A
  pub each : InOrder step first (take count (drop start old)) answers last
  pub written : take (start + count) new ≡ take start old ++ map back answers
  pub rest : drop (start + count) new ≡ drop (start + count) old
  pub long : length new ≡ length old

-- the same, and as a word which answers are none
pub record TriedInPlace {F X W : Type 0} (step : F → X → Option W → F → Type 0) (first : F) (back : Option W → X) (start count : ℕ) (old new : List X) (last : F) (word : ℕ) : Type 0 where
  pub lanes : InPlace step first back start count old new last
  pub none_is : word ≡ mask_l (map is_none lanes.answers)

-- the first groups of lanes replaced where they stand, with no failure in them
pub record TriedSoFar {F X W : Type 0} (step : F → X → Option W → F → Type 0) (first : F) (back : Option W → X) (count : ℕ) (mask : List Bool) (old now : List X) (last : F) : Type 0 where
  pub answers : List (Option W)
  pub each : InOrder step first (take count old) answers last
  pub passes : (i : ℕ) → i < count → fails_at mask answers i ≡ false
  pub written : take count now ≡ map back answers
  pub rest : drop count now ≡ drop count old
  pub long : length now ≡ length old
