use Rattle.std.proofs.Common.{◌∙◌, ap}
use Rattle.vortex_array_lists.specs.Fronts.{front_number}
use Rattle.vortex_array_lists.proofs.Pieces.{piece_between}
use Rattle.vortex_array_lists.proofs.byte_lists.piece_front.Goals as goal

pub returns : goal.returns
returns c = c.front_between.ensures ∙ ap front_number (piece_between c.args.bytes.now c.args.ends.now c.args.i _ _ c.requires.inside c.bounds_of-start.ensures.start c.bounds_of-start.ensures.end)
