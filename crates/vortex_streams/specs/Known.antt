-- What several reads or writes did to the bytes that are left or taken, where these are told.
use Rattle.std.specs.Prelude.{◌<◌, ◌≤◌, ℕ, List, Option, length, take}
use Rattle.std.specs.Io.KnownBytes.{Appends, Consumes}

-- told bytes that were taken grew by a front of these bytes
abbrev pub AppendsFront : Option (List ℕ) → Option (List ℕ) → List ℕ → Type 0
AppendsFront old new bytes = (n : ℕ) × (n ≤ length bytes) × Appends old new (take n bytes)

-- told bytes that were left lost a front
abbrev pub ConsumesFront : Option (List ℕ) → Option (List ℕ) → Type 0
ConsumesFront old new = (front : List ℕ) × Consumes old new front

-- told bytes that were left lost a front of more bytes than this
abbrev pub ConsumesMoreThan : Option (List ℕ) → Option (List ℕ) → ℕ → Type 0
ConsumesMoreThan old new limit = (front : List ℕ) × (limit < length front) × Consumes old new front
