use Rattle.std.proofs.Common.{◌≡◌, ◌∙◌, sym, ap, refl, ◌+◌, arith}
use Rattle.vortex_table_types.specs.Chosen.{is_partition_chosen as is_chosen_partition}
use Rattle.vortex_table_scan.proofs.Picking.{count_on, one_if}
use Rattle.vortex_table_scan.proofs.partitions.partition_at.Goals.{then-is_partition_chosen+else-left-eq0, else-is_partition_chosen}
use Rattle.vortex_table_scan.proofs.partitions.partition_at.Goals as goal

-- a chosen partition counts, and another does not
pub partitions-preserved : goal.partitions-preserved
partitions-preserved c =
    let p = c.partitions.partition in
    let more = count_on (is_chosen_partition c.args.request.now) p (p + 1) refl in
    elim c.if-is_partition_chosen.branch [
      | then-is_partition_chosen+else-left-eq0 w ↦
          let one : one_if (is_chosen_partition c.args.request.now p) ≡ 1 = ap one_if (sym c.is_partition_chosen.ensures ∙ w.if-is_partition_chosen.true) in
          omega (arith, more, one, c.partitions.invariant, w.left-is, w.if-left-eq0.false)
      | else-is_partition_chosen w ↦
          let none : one_if (is_chosen_partition c.args.request.now p) ≡ 0 = ap one_if (sym c.is_partition_chosen.ensures ∙ w.if-is_partition_chosen.false) in
          omega (arith, more, none, c.partitions.invariant, w.left-is)
    ]
