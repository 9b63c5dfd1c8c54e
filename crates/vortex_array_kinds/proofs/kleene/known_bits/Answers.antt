use Rattle.std.proofs.Common.{◌∙◌, ◌≡◌, ◌&&◌, ◌||◌, sym, ap, length}
use Rattle.std.proofs.lemmas.Simd.{length-zip2}
use Rattle.vortex_array_kinds.proofs.kleene.known_bits.Goals as goal

pub or-requires : goal.or-requires
or-requires c =
    ap length c.in_ok-both.ensures ∙ length-zip2 ◌&&◌ c.args.left.now c.args.right.now (c.requires.left ∙ sym c.requires.right)
    ∙ sym (ap length c.in_ok-by_left.ensures ∙ length-zip2 ◌&&◌ c.args.left.now c.args.left_decides.now c.requires.left)

pub or-requires-2 : goal.or-requires-2
or-requires-2 c =
    let both : length c.in_ok-both.both ≡ length c.args.left.now = ap length c.in_ok-both.ensures ∙ length-zip2 ◌&&◌ c.args.left.now c.args.right.now (c.requires.left ∙ sym c.requires.right) in
    let by_left : length c.in_ok-by_left.by_left ≡ length c.args.left.now = ap length c.in_ok-by_left.ensures ∙ length-zip2 ◌&&◌ c.args.left.now c.args.left_decides.now c.requires.left in
    let by_right : length c.in_ok-by_right.by_right ≡ length c.args.right.now = ap length c.in_ok-by_right.ensures ∙ length-zip2 ◌&&◌ c.args.right.now c.args.right_decides.now (c.requires.right ∙ sym c.requires.right_decides) in
    ap length c.in_ok-by_left-2.ensures ∙ length-zip2 ◌||◌ c.in_ok-both.both c.in_ok-by_left.by_left (both ∙ sym by_left) ∙ both ∙ c.requires.left ∙ sym c.requires.right ∙ sym by_right
