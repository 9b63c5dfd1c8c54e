use Rattle.vortex_array_lists.proofs.Pieces.{piece_between}
use Rattle.vortex_array_lists.proofs.byte_lists.piece.Goals as goal

pub returns : goal.returns
returns c = piece_between c.args.bytes.now c.args.ends.now c.args.i _ _ c.requires.inside c.bounds_of-start.ensures.start c.bounds_of-start.ensures.end
