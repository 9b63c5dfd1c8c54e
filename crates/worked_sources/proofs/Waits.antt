-- How many fetches stay outstanding.
use Rattle.std.proofs.Common.{◌+◌, ◌≤◌, ℕ, Option, List, length, inl, inr, ap, arith}
use Rattle.vortex_io.specs.declared.request.Completion.{Completion}
use Rattle.vortex_io.specs.declared.request.Fetch.{Fetch}
use Rattle.vortex_io.specs.Source.{Completes, Content}
use Rattle.vortex_io.proofs.Targets.{fewer_one}

-- a completion takes one at most
pub one_left : {C M : Type 0} (means : C → M) (told : Option (Content C)) (old new : List Fetch) (before now : ℕ) (completion : Completion C) → Completes means told old new before now completion → length old ≤ length new + 1
one_left means told old new before now completion completes = elim completes [
  | inl one ↦ omega (arith, fewer_one completion.owner completion.request old new one.entry one.taken)
  | inr none ↦ omega (arith, ap length none.same)
]
