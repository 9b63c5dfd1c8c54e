use Rattle.std.proofs.Common.{◌∙◌, ap}
use Rattle.std.specs.Cmp.Lexicographic.{slice_cmp}
use Rattle.std.specs.Ordering.{nat_cmp}
use Rattle.vortex_array_lists.proofs.Pieces.{piece_between}
use Rattle.vortex_array_lists.proofs.byte_lists.piece_order.Goals as goal

pub returns : goal.returns
returns c = c.order_between.ensures ∙ ap (λ list. slice_cmp nat_cmp list c.args.other.now) (piece_between c.args.bytes.now c.args.ends.now c.args.i _ _ c.requires.inside c.bounds_of-start.ensures.start c.bounds_of-start.ensures.end)
