-- Numbers that are told, and how far they can be trusted.
use Rattle.std.specs.Prelude.{◌≡◌, ℕ}
use Rattle.vortex_scan_types.specs.declared.data_source.Precision.{Precision}
use Rattle.vortex_scan_types.specs.declared.data_source.Precision.TheVariants.{Exact, Inexact, Absent}

-- a number that is told as exact is the one; another says nothing
abbrev pub Tells : ℕ → Precision ℕ → Type 0
Tells number (Exact told) = told ≡ number
Tells number (Inexact told) = Unit {0}
Tells number Absent = Unit {0}
