use Rattle.std.proofs.Common.{arith, ◌≡◌, ◌+◌, ◌*◌, ◌∙◌, ap, take}
use Rattle.vortex_array_rows.specs.Kept.{kept_in}
use Rattle.vortex_array_rows.proofs.kept_items.pack_whole.Goals as goal

pub loop-k-preserved : goal.loop-k-preserved
loop-k-preserved g c =
    let next : 8 * c.loop-k.k + 8 ≡ 8 * (c.loop-k.k + 1) = omega arith in
    record {
      few = omega (arith, c.pack_eight-count.ensures.few);
      packed = c.pack_eight-count.ensures.packed ∙ ap (λ n. kept_in c.args.word (take n c.args.group.now)) next;
    }
