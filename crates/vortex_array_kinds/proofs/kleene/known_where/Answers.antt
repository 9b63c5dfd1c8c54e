use Rattle.std.proofs.Common.{◌∙◌, ◌≡◌, sym, ap, length, refl}
use Rattle.std.specs.Prelude.{IsTrue}
use Rattle.vortex_array_kinds.specs.Truths.{BothValid}
use Rattle.vortex_array_kinds.specs.Known.{known}
use Rattle.vortex_array_kinds.specs.Validities.{is_as_long, valid_bits}
use Rattle.vortex_array_kinds.proofs.KnownWhere.{known-from-both, known-from-bits}
use Rattle.vortex_array_kinds.proofs.kleene.known_where.Goals as goal

pub returns-then-are_full : goal.returns-then-are_full
returns-then-are_full c =
    let n = length c.args.left_decides.now in
    let both : BothValid n c.args.left.now c.args.right.now c.in_ok-both.both = rw c.len-len.ensures at c.in_ok-both.ensures in
    known-from-both n c.args.left.now c.args.left_decides.now c.args.right.now c.args.right_decides.now c.in_ok-both.both
    (c.are_full.ensures.left c.if-are_full.true n) (c.are_full.ensures.right c.if-are_full.true n) refl (sym c.requires.same_length) both

pub returns : goal.returns
returns c =
    let n = length c.args.left_decides.now in
    let right_long : IsTrue (is_as_long c.args.right.now n) = rw c.requires.same_length c.requires.right_long in
    let is : c.in_ok-bits.bits ≡ known (valid_bits c.args.left.now n) c.args.left_decides.now (valid_bits c.args.right.now n) c.args.right_decides.now =
    c.in_ok-bits.ensures
    ∙ ap (λ ps. known ps c.args.left_decides.now c.in_ok-right_valid.right_valid c.args.right_decides.now) (c.in_ok-left_valid.ensures ∙ ap (valid_bits c.args.left.now) c.len-len.ensures)
    ∙ ap (λ qs. known (valid_bits c.args.left.now n) c.args.left_decides.now qs c.args.right_decides.now) (c.in_ok-right_valid.ensures ∙ ap (valid_bits c.args.right.now) c.len-len.ensures)
    in
    known-from-bits n c.args.left.now c.args.left_decides.now c.args.right.now c.args.right_decides.now c.in_ok-bits.bits
    c.requires.left_long right_long refl (sym c.requires.same_length) (c.are_full.ensures.nulls c.if-are_full.false) is
