-- The number of a most significant part and a lower part.
use Rattle.std.specs.Prelude.{ℕ, ◌^◌, ℤ, pos, ◌+ℤ◌, ◌*ℤ◌}

-- the number of two parts, of which the lower one has 64 bits
abbrev pub value : ℤ → ℕ → ℤ
value msp lower = (msp *ℤ pos (2 ^ 64)) +ℤ pos lower
