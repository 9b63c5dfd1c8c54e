use Rattle.std.proofs.Common.{arith, length, ap}
use Rattle.vortex_array_lists.proofs.Pieces.{length-pieces}
use Rattle.vortex_array_lists.proofs.byte_lists.ByteLists.equals_with.Goals as goal

pub piece_equals-requires-clause-inside : goal.piece_equals-requires-clause-inside
piece_equals-requires-clause-inside c = omega (arith, c.requires.inside, length-pieces c.self.inside.bytes.items 0 c.self.inside.ends.items, ap length c.self.view_is, ap length c.deref-2.ensures.value)
