use Rattle.std.proofs.Common.{◌*◌, take}
use Rattle.vortex_array_rows.specs.Kept.{kept_by}
use Rattle.vortex_array_rows.specs.Packs.{Packs}
use Rattle.vortex_array_rows.proofs.kept_bits.filter_by_words.Given as goal

abbrev pub invariant-loop-k : goal.invariant-loop-k
invariant-loop-k l = Packs (kept_by (take (64 * l.k) l.set) (take (64 * l.k) l.bits)) l.words.items l.last.bits l.last.len
