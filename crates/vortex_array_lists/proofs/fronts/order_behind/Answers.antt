use Rattle.std.proofs.Common.{arith, sym, ◌∙◌}
use Rattle.vortex_array_lists.proofs.FrontOrder.{front-by-lengths, front-by-rests}
use Rattle.vortex_array_lists.proofs.fronts.order_behind.Goals as goal

pub returns-then-min-le8 : goal.returns-then-min-le8
returns-then-min-le8 c =
    c.cmp.ensures
    ∙ sym (front-by-lengths c.args.list.now c.args.other.now (λ k. (c.type_inv.list k).fits) (λ k. (c.type_inv.other k).fits) c.requires (omega (arith, c.min.ensures, c.if-min-le8.true)))

pub returns : goal.returns
returns c =
    c.cmp-2.ensures
    ∙ front-by-rests c.args.list.now c.args.other.now (λ k. (c.type_inv.list k).fits) (λ k. (c.type_inv.other k).fits) c.requires (omega (arith, c.min.ensures, c.if-min-le8.false)) (omega (arith, c.min.ensures, c.if-min-le8.false))
