-- Places of a stretch of rows.
use Rattle.std.specs.Prelude.{ℕ, ◌+◌, ◌≤◌, ◌<◌}

-- the place is one of so many from the start on
abbrev pub LiesWithin : ℕ → ℕ → ℕ → Type 0
LiesWithin start len place = (start ≤ place) × (place < start + len)
