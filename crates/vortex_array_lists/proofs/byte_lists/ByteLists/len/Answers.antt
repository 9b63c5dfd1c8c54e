use Rattle.std.proofs.Common.{arith, length, ap}
use Rattle.vortex_array_lists.proofs.Pieces.{length-pieces}
use Rattle.vortex_array_lists.proofs.byte_lists.ByteLists.len.Goals as goal

pub returns : goal.returns
returns c = omega (arith, c.len.ensures, length-pieces c.self.inside.bytes.items 0 c.self.inside.ends.items, ap length c.self.view_is)
