use Rattle.std.proofs.Common.{◌≡◌, ◌+◌, ◌≤◌, ◌++◌, ◌∷◌, [], length, drop, ◌-◌}
use Rattle.vortex_scan.specs.Keys.{key_less}
use Rattle.vortex_scan.proofs.least.less.Given as goal

abbrev pub invariant-loop-q : goal.invariant-loop-q
invariant-loop-q l =
    (l.i ≤ length l.b + 1)
    × (key_less (l.a ++ l.x ∷ []) (l.b ++ l.y ∷ []) ≡ key_less (drop l.i (l.a ++ l.x ∷ [])) (drop l.i (l.b ++ l.y ∷ [])))

abbrev pub decreases-loop-q : goal.decreases-loop-q
decreases-loop-q l = length l.b + 1 - l.i
