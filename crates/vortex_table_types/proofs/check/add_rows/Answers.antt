use Rattle.std.proofs.Common.{◌≡◌, ap, arith, take}
use Rattle.std.specs.Prelude.{sum_by}
use Rattle.std.proofs.lemmas.List.{take_all}
use Rattle.vortex_table_types.specs.declared.describe.SplitDesc.{SplitDesc}
use Rattle.vortex_table_types.proofs.check.add_rows.Goals as goal

pub returns : goal.returns
returns c =
    let f = λ (split : SplitDesc). split.rows in
    let all : take c.loop-split.split-index c.args.splits.now ≡ c.args.splits.now = take_all c.loop-split.split-index c.args.splits.now (omega arith) in
    let sums = ap (sum_by f) all in
    (omega (arith, c.loop-split.invariant.0, c.loop-split.invariant.1, sums), omega (arith, c.loop-split.invariant.1, sums))
