use Rattle.std.proofs.Common.{◌≡◌, ◌*◌, take}
use Rattle.vortex_array_rows.specs.Kept.{kept_by}
use Rattle.vortex_array_rows.proofs.kept_lists.filter_by_words.Given as goal

abbrev pub invariant-loop-k : goal.invariant-loop-k
invariant-loop-k l = l.kept ≡ kept_by (take (64 * l.k) l.bits) (take (64 * l.k) l.lists)
