-- Powers of ten in 128 bits.
use Rattle.std.proofs.Common.{◌<◌, ◌≤◌, ◌^◌, ℕ, arith}
use Rattle.std.proofs.Math.Nat.{one-le-pow, pow-le-pow_right}

pub ten_fits : (k : ℕ) → k ≤ 38 → 10 ^ k < 2 ^ 128
ten_fits k h = omega (arith, pow-le-pow_right {n = 10} (omega arith) h)

pub ten_most : (k : ℕ) → k ≤ 38 → 10 ^ k ≤ 10 ^ 38
ten_most k h = pow-le-pow_right {n = 10} (omega arith) h

pub ten_some : (k : ℕ) → 0 < 10 ^ k
ten_some k = one-le-pow k 10 (omega arith)

-- a greater power is greater
pub tens_grow : (i j : ℕ) → i ≤ j → 10 ^ i ≤ 10 ^ j
tens_grow i j h = pow-le-pow_right {n = 10} (omega arith) h
