use Rattle.std.proofs.Common.{◌∙◌}
use Rattle.std.specs.Prelude.{slice_range}
use Rattle.vortex_array_lists.proofs.FrontOrder.{bytes-between, front-tells}
use Rattle.vortex_array_lists.proofs.fronts.order_between.Goals as goal

pub returns-then-own-front : goal.returns-then-own-front
returns-then-own-front c =
    c.cmp.ensures
    ∙ front-tells (slice_range c.args.bytes.now c.args.start c.args.end) c.args.other.now c.front_between-own.result c.args.front (bytes-between c.args.bytes.now c.args.start c.args.end (λ k. (c.type_inv.bytes k).fits)) (λ k. (c.type_inv.other k).fits) c.front_between-own.ensures c.requires.front c.if-own-front.true
