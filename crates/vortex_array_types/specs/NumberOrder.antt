use Rattle.std.proofs.Common.{◌≡◌, ℕ, ℤ, pos, refl, arith}
use Rattle.std.specs.Ordering.{nat_cmp, int_cmp}

-- natural numbers stand as they do as whole numbers
pub naturals_ordered : (x y : ℕ) → nat_cmp x y ≡ int_cmp (pos x) (pos y)
naturals_ordered x y = grind arith

-- whole numbers stand as they do
pub integers_ordered : (x y : ℤ) → int_cmp x y ≡ int_cmp x y
integers_ordered x y = refl
