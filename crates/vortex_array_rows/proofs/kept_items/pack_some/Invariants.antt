use Rattle.std.proofs.Common.{◌≡◌, ◌≤◌, take}
use Rattle.vortex_array_rows.specs.Kept.{kept_in}
use Rattle.vortex_array_rows.proofs.kept_items.pack_some.Given as goal

abbrev pub invariant-loop-i : goal.invariant-loop-i
invariant-loop-i g l = record { few : l.count ≤ l.i; packed : take l.count l.room ≡ kept_in l.word (take l.i l.group) }
