use Rattle.std.proofs.Common.{◌≡◌, sym, ap, ℕ, zero, suc, ◌<◌, List, [], ◌∷◌, length, get_or, arith}
use Rattle.std.specs.Prelude.{Some, slice_get}
use Rattle.vortex_table_scan.proofs.OnePartition.{one_described}
use Rattle.vortex_table_scan.proofs.roots.make_planner.Goals as goal

-- what is read of a list stands there
stands_there : {X : Type 0} (xs : List X) (i : ℕ) (x : X) → i < length xs → x ≡ get_or xs i x → slice_get xs i ≡ Some x
stands_there [] i x less e = absurd (omega (arith, less))
stands_there (y ∷ xs) zero x less e = ap (λ z. Some z) (sym e)
stands_there (y ∷ xs) (suc i) x less e = stands_there xs i x (omega (arith, less)) e

pub try_new-requires-clause-described : goal.try_new-requires-clause-described
try_new-requires-clause-described c =
    one_described c.args.columns.now c.args.partitions.now (length c.args.partitions.now) c.args.partition c.index-partitions-partition.result c.requires.described
    (stands_there c.args.partitions.now c.args.partition c.index-partitions-partition.result c.requires.within c.index-partitions-partition.is)

pub returns-in-Ok : goal.returns-in-Ok
returns-in-Ok c =
    let new = c.in-Ok.ensures in (
      c.index-partitions-partition.result,
      stands_there c.args.partitions.now c.args.partition c.index-partitions-partition.result c.requires.within c.index-partitions-partition.is,
      record { owed = new.owed; plan = new.plan; orderly = new.orderly; work = new.work; asked = new.asked; acts = new.acts; permits = new.permits; suits = new.suits },
    )
