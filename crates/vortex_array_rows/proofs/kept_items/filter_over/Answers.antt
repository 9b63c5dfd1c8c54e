use Rattle.std.proofs.Common.{arith, ◌≡◌, ◌+◌, ◌-◌, ◌*◌, ap, refl, length, drop, take, min, length-take, length-drop}
use Rattle.vortex_array_rows.proofs.KeptWords.{word_below, group_more}
use Rattle.vortex_array_rows.proofs.kept_items.filter_over.Goals as goal

pub push_group-requires-clause-word : goal.push_group-requires-clause-word
push_group-requires-clause-word g c =
    let items = c.args.items.now in
    let start = 64 * c.loop-k.k in
    let count = c.min.result in
    let long : length (take (start + count - start) (drop start items)) ≡ min 64 (length c.args.bits.now - 64 * c.loop-k.k) =
    omega (arith, length-take (start + count - start) (drop start items), length-drop start items, c.min.ensures, c.requires.same_length)
    in
    rw c.word.ensures (word_below c.args.bits.now c.loop-k.k (length (take (start + count - start) (drop start items))) long)

pub loop-k-preserved : goal.loop-k-preserved
loop-k-preserved g c =
    let items = c.args.items.now in
    let start = 64 * c.loop-k.k in
    group_more c.args.bits.now items c.loop-k.k start (start + c.min.result) (64 * (c.loop-k.k + 1)) c.word.result c.loop-k.kept.items c.push_group.new.kept.items c.requires.same_length refl (omega arith) (ap (λ n. start + n) c.min.ensures) refl c.word.ensures c.loop-k.invariant c.in_ok-push_group.ensures.ok
