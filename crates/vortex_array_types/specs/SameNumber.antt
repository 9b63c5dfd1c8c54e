-- When two natural numbers are the same.
use Rattle.std.proofs.Common.{◌≡◌, ℕ, pos, ap}
use Rattle.std.specs.Bool.{Decides}
use Rattle.std.specs.Cmp.{unsigned_Decides}
use Rattle.std.specs.Prelude.{nat_eq, unsigned_abs}

-- two natural numbers are the same exactly where they are as whole numbers
pub same_naturals : (x y : ℕ) → Decides (nat_eq x y) (pos x ≡ pos y)
same_naturals x y = (
  λ e. ap pos ((unsigned_Decides x y).0 e),
  λ e. (unsigned_Decides x y).1 (ap unsigned_abs e),
)
