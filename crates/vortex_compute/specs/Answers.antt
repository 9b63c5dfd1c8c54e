use Rattle.std.specs.Prelude.{ℕ, ◌<◌, ◌≡◌, Bool, true, false, ◌&&◌, cond, List, length, get_or, take, map, replicate, Option, None, is_none, unwrap_or}
use Rattle.std.specs.List.{AllZip, fold}
use Rattle.std.specs.Simd.Lanes.{zip2}
use Rattle.vortex_buffer.specs.Bits.{packed_over}

-- Each call of a kernel has one list of answers, of which answer i is one that the closure gave to lane i.
-- `AllZip P lanes answers` says so, where `P lane answer` says that the closure may give that answer to that lane.

-- every lane is valid, where there is no mask
abbrev pub all_valid : {X : Type 0} → List X → List Bool
all_valid lanes = replicate (length lanes) true

-- lane i fails: it is valid, and its answer is none
abbrev pub fails_at : {R : Type 0} → List Bool → List (Option R) → ℕ → Bool
fails_at mask answers i = get_or mask i false && is_none (get_or answers i None)

-- valid lanes hold their answer, and null lanes the default d
pub record MapsValid {X R : Type 0} (P : X → R → Type 0) (d : R) (lanes : List X) (mask : List Bool) (new : List R) : Type 0 where
  pub answers : List R
  pub each : AllZip P lanes answers
  pub written : new ≡ zip2 (λ valid answer. cond valid answer d) mask answers

-- the first part of each answer was written, and the word is the or of all second parts, from the word of no failure
pub record MapsChecked {X R W : Type 0} (P : X → R × W → Type 0) (none : W) (or : W → W → W) (lanes : List X) (new : List R) (word : W) : Type 0 where
  pub answers : List (R × W)
  pub each : AllZip P lanes answers
  pub written : new ≡ map (λ answer. answer.0) answers
  pub failures : word ≡ fold or none (map (λ answer. answer.1) answers)

-- the words of the answers were written over the first of the old words, and all further words stayed
pub record MapsBits {X : Type 0} (P : X → Bool → Type 0) (lanes : List X) (old new : List ℕ) : Type 0 where
  pub answers : List Bool
  pub each : AllZip P lanes answers
  pub written : new ≡ packed_over answers old

-- no valid lane failed, and each lane, null or not, holds the value of its answer, or the default d where that is none
pub record MapsLanes {X R : Type 0} (P : X → Option R → Type 0) (d : R) (lanes : List X) (mask : List Bool) (new : List R) : Type 0 where
  pub answers : List (Option R)
  pub each : AllZip P lanes answers
  pub passes : (i : ℕ) → i < length lanes → fails_at mask answers i ≡ false
  pub written : new ≡ map (λ answer. unwrap_or answer d) answers

-- lane i is the first that failed; there is one answer for each lane that was asked, a front of the lanes that holds lane i
pub record FailsFirst {X R : Type 0} (P : X → Option R → Type 0) (lanes : List X) (mask : List Bool) (i : ℕ) : Type 0 where
  pub answers : List (Option R)
  pub each : AllZip P (take (length answers) lanes) answers
  pub within : i < length answers
  pub fails : fails_at mask answers i ≡ true
  pub before : (j : ℕ) → j < i → fails_at mask answers j ≡ false
