-- The sources of a table, apart and together again.
use Rattle.std.specs.Prelude.{ℕ, suc, Bool, true, not, ◌&&◌, nat_lt, cond, List, [], ◌∷◌, Option, None, Some}
use Rattle.vortex_scan_types.specs.declared.request.ScanRequest.{ScanRequest}
use Rattle.vortex_table_types.specs.Chosen.{is_partition_chosen}

-- of numbered things, the first having number p, those whose number passes a test
abbrev pub picked : {X : Type 0} → (ℕ → Bool) → ℕ → List X → List X
picked test p [] = []
picked test p (x ∷ xs) = cond (test p) (x ∷ picked test (suc p) xs) (picked test (suc p) xs)

-- before the partition at which admission stopped, if it did
abbrev pub is_before : Option ℕ → ℕ → Bool
is_before None partition = true
is_before (Some stopped) partition = nat_lt partition stopped

-- whether a partition's source is admitted: it is chosen, and stands before the partition at which admission stopped
abbrev pub is_admitted : ScanRequest → Option ℕ → ℕ → Bool
is_admitted request stopped partition = is_before stopped partition && is_partition_chosen request partition

abbrev pub is_left : ScanRequest → Option ℕ → ℕ → Bool
is_left request stopped partition = not (is_admitted request stopped partition)
