use Rattle.std.proofs.Common.{arith, ◌∙◌}
use Rattle.vortex_array_lists.proofs.FrontOrder.{front-and-rest, front-whole}
use Rattle.vortex_array_lists.proofs.fronts.equal_behind.Goals as goal

pub returns-then-other-le8 : goal.returns-then-other-le8
returns-then-other-le8 c = front-whole c.args.list.now c.args.other.now (λ k. (c.type_inv.list k).fits) (λ k. (c.type_inv.other k).fits) c.requires.front c.requires.len c.if-other-le8.true

pub returns : goal.returns
returns c =
    c.eq.ensures
    ∙ front-and-rest c.args.list.now c.args.other.now (λ k. (c.type_inv.list k).fits) (λ k. (c.type_inv.other k).fits) c.requires.front c.requires.len (omega (arith, c.if-other-le8.false))
