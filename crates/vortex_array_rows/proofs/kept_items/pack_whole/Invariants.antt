use Rattle.std.proofs.Common.{◌≡◌, ◌≤◌, ◌*◌, take}
use Rattle.vortex_array_rows.specs.Kept.{kept_in}
use Rattle.vortex_array_rows.proofs.kept_items.pack_whole.Given as goal

abbrev pub invariant-loop-k : goal.invariant-loop-k
invariant-loop-k g l = record { few : l.count ≤ 8 * l.k; packed : take l.count l.room ≡ kept_in l.word (take (8 * l.k) l.group) }
