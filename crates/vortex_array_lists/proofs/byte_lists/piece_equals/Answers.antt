use Rattle.std.proofs.Common.{◌∙◌, ap}
use Rattle.std.specs.Cmp.Lexicographic.{slice_cmp}
use Rattle.std.specs.Ordering.{is_eq, nat_cmp}
use Rattle.vortex_array_lists.proofs.Pieces.{piece_between}
use Rattle.vortex_array_lists.proofs.byte_lists.piece_equals.Goals as goal

pub returns : goal.returns
returns c = c.equal_between.ensures ∙ ap (λ list. is_eq (slice_cmp nat_cmp list c.args.other.now)) (piece_between c.args.bytes.now c.args.ends.now c.args.i _ _ c.requires.inside c.bounds_of-start.ensures.start c.bounds_of-start.ensures.end)
