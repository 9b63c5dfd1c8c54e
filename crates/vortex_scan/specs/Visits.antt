-- When all sources are asked.
use Rattle.std.specs.Prelude.{ℕ, Bool, true, not, nat_lt, Option, None, Some, List, length}
use Rattle.std.specs.List.{sum_by}
use Rattle.vortex_scan.specs.declared.errors.Progress.{Progress}
use Rattle.vortex_scan.specs.declared.errors.Progress.TheVariants as progress
use Rattle.vortex_scan.specs.declared.errors.Visited.{Visited}
use Rattle.vortex_scan.specs.declared.errors.Visited.TheVariants as visited
use Rattle.vortex_scan.specs.declared.item.Item.{Item}

-- it is time to ask all sources: 64 visits were made since, or they never were asked
abbrev pub is_due : Option ℕ → Bool
is_due None = true
is_due (Some visits) = not (nat_lt visits 64)

-- how many fetches all items have outstanding
abbrev pub asked_count : {W : Type 0} → List (Item W) → ℕ
asked_count {W} items = sum_by (λ (item : Item W). length item.asked) items

-- what a visit gives a call to answer, if anything
abbrev pub came_to : Visited → Option Progress
came_to visited.Went = None
came_to (visited.Batch batch) = Some (progress.Batch batch)
came_to (visited.RootDone root) = Some (progress.RootDone root)
