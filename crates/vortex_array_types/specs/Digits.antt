-- What contracts see of a decimal type.
use Rattle.std.specs.Prelude.{ℕ, ℤ}

-- how many digits there are, and how many of them stand behind the point
pub record Digits : Type 0 where
  pub precision : ℕ
  pub scale : ℤ
