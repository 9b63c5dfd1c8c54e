use Rattle.vortex_array_kinds.proofs.BothValid.{both_are}
use Rattle.vortex_array_kinds.proofs.validity.Validity.both.Goals as goal

pub returns : goal.returns
returns c = both_are c.args.len c.args.self.now c.args.other.now c.in_ok-both.both c.requires.self_long c.requires.other_long c.in_ok-both.ensures
