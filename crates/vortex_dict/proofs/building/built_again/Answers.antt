use Rattle.vortex_dict.proofs.BuiltAgain.{never-refused}
use Rattle.vortex_dict.proofs.building.built_again.Goals as goal

pub unreachable-requires : goal.unreachable-requires
unreachable-requires c =
    never-refused c.args.dict.now c.dtype.result c.len.result c.in-Ok.metadata c.in_ok-children.children.items c.in-Err.field-0
    c.in_ok-children.ensures.fits c.dtype.ensures c.len.ensures c.in-Ok.ensures.ok c.in_ok-children.ensures.copies c.in-Err.ensures.err
