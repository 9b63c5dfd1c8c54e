use Rattle.std.proofs.Common.{◌+◌, ◌*◌, ap, refl}
use Rattle.vortex_array_cast.proofs.FilledWords.{fill-group}
use Rattle.vortex_array_cast.proofs.fill.fill_over.Goals as goal

pub loop-k-preserved : goal.loop-k-preserved
loop-k-preserved g c =
    let items = c.args.items.now in
    let start = 64 * c.loop-k.k in
    fill-group c.args.fill c.args.bits.now items c.loop-k.k start (start + c.min.result) (64 * (c.loop-k.k + 1)) c.word.result c.loop-k.made.items c.push_group.new.made.items c.requires.same_length refl (ap (λ n. start + n) c.min.ensures) refl c.word.ensures c.loop-k.invariant c.in_ok-push_group.ensures
