-- Counts of calls and of failures, which stand still at their last number, and what a failure rests on.
use Rattle.std.specs.Prelude.{◌≡◌, ◌<◌, ◌≤◌, ◌+◌, ◌^◌, ◌⊎◌, ◌-◌, ℕ, min, Result, OnErr}

-- one more than a count, which stays at its last number
abbrev pub one_more : ℕ → ℕ
one_more count = min (count + 1) (2 ^ 64 - 1)

-- two counts as one, which stays at its last number
abbrev pub together : ℕ → ℕ → ℕ
together left right = min (left + right) (2 ^ 64 - 1)

-- a count rose in a call, or stands at its last number
abbrev pub Rose : ℕ → ℕ → Type 0
Rose before now = (before < now) ⊎ (now ≡ 2 ^ 64 - 1)

-- something failed in a call: the count of failures rose, or stands at its last number
abbrev pub Faulted : ℕ → ℕ → Type 0
Faulted before now = Rose before now

-- the count of failures does not fall, and a call fails only where it rose or stands at its last number
pub record HasCause {T E : Type 0} (before now : ℕ) (result : Result T E) : Type 0 where
  pub later : before ≤ now
  pub failed : OnErr result (Faulted before now)
