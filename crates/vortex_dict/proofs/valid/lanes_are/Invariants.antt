use Rattle.std.proofs.Common.{ℕ, ◌<◌, ◌≡◌, Bool, get_or}
use Rattle.vortex_dict.proofs.valid.lanes_are.Given as goal

abbrev pub invariant-loop-i : goal.invariant-loop-i
invariant-loop-i g l = (k : ℕ) (d : Bool) → k < l.i → get_or (g.S.IndexedSource.lanes l.lanes) k d ≡ l.wanted
