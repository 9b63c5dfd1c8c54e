use Rattle.std.specs.Prelude.{ℕ, ◌+◌, ◌*◌, ◌/◌, ◌<◌, ◌≡◌, Bool, true, false, List, [], ◌∷◌, ⊤, length, take, map, min, Option, unwrap_or}
use Rattle.std.specs.List.{FoldsTo, zip}
use Rattle.vortex_compute.specs.Answers.{fails_at}

-- A closure that changes as it is called is asked lane by lane, in order.
-- `step f lane answer g` says that in the state f it may give that answer to that lane, and is then in the state g.

-- The closure may be called on the first lane and, whatever it answers and whatever state that leaves it in, on the rest.
-- `pre f lane` says that in the state f it may be called on that lane.
abbrev pub MayRun : {F X R : Type 0} → (F → X → Type 0) → (F → X → R → F → Type 0) → F → List X → Type 0
MayRun pre step f [] = ⊤
MayRun {F} {X} {R} pre step f (lane ∷ rest) = pre f lane × ((answer : R) (g : F) → step f lane answer g → MayRun pre step g rest)

-- the answers to the lanes, each given from the state that the one before left, from the first state to the last
pub record InOrder {F X R : Type 0} (step : F → X → R → F → Type 0) (first : F) (lanes : List X) (answers : List R) (last : F) : Type 0 where
  pub long : length answers ≡ length lanes
  pub calls : FoldsTo (λ f call g. step f call.0 call.1 g) first (zip lanes answers) last

-- each lane was replaced by what its answer reads back as
pub record MapsInOrder {F X W : Type 0} (step : F → X → W → F → Type 0) (first : F) (reads_back : W → X) (lanes new : List X) : Type 0 where
  pub answers : List W
  pub last : F
  pub each : InOrder step first lanes answers last
  pub written : new ≡ map reads_back answers

-- no valid lane failed, and each lane, null or not, was replaced by the value of its answer, or by the default d where that is none
pub record TriesInOrder {F X W : Type 0} (step : F → X → Option W → F → Type 0) (first : F) (reads_back : W → X) (d : W) (lanes : List X) (mask : List Bool) (new : List X) : Type 0 where
  pub answers : List (Option W)
  pub last : F
  pub each : InOrder step first lanes answers last
  pub passes : (i : ℕ) → i < length lanes → fails_at mask answers i ≡ false
  pub written : new ≡ map (λ answer. reads_back (unwrap_or answer d)) answers

-- where the group of 64 lanes ends that holds lane i of n
abbrev pub group_end : ℕ → ℕ → ℕ
group_end n i = min n (64 * (i / 64) + 64)

-- lane i is the first that failed; there is one answer for each lane up to the end of its group of 64, and none for later lanes
pub record FailsInOrder {F X W : Type 0} (step : F → X → Option W → F → Type 0) (first : F) (lanes : List X) (mask : List Bool) (i : ℕ) : Type 0 where
  pub answers : List (Option W)
  pub last : F
  pub each : InOrder step first (take (length answers) lanes) answers last
  pub asked : length answers ≡ group_end (length lanes) i
  pub within : i < length lanes
  pub fails : fails_at mask answers i ≡ true
  pub before : (j : ℕ) → j < i → fails_at mask answers j ≡ false
