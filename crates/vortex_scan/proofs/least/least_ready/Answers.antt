use Rattle.std.proofs.Common.{◌≡◌, ℕ, ◌≤◌, List, length, arith, Option, None, Some, false}
use Rattle.std.specs.Prelude.{MatchOption, slice_get}
use Rattle.std.proofs.lemmas.Option.{slice_get_within}
use Rattle.vortex_scan.specs.declared.item.Item.{Item}
use Rattle.vortex_scan.specs.Keys.{LeastOf, IsLeastReady}
use Rattle.vortex_scan.proofs.LeastReady.{least_all}
use Rattle.vortex_scan.proofs.least.least_ready.Goals as goal

at_end : {W : Type 0} (items : List (Item W)) (n : ℕ) (best : Option ℕ) → length items ≤ n → LeastOf items n best →
    MatchOption best ((j : ℕ) (other : Item W) → slice_get items j ≡ Some other → other.ready ≡ false) (λ i. (item : Item W) × IsLeastReady items i item)
at_end items n None e none = λ j other at. none j (let h = slice_get_within items j other at in omega arith) other at
at_end items n (Some i) e l = (l.1.0, least_all items n i l.1.0 e l.1.1)

pub returns : goal.returns
returns g c = at_end c.args.items.now c.loop-i.i c.loop-i.best (omega arith) c.loop-i.invariant
