use Rattle.std.proofs.Common.{arith}
use Rattle.vortex_dict_builders.proofs.Succeeds.{succeeded}
use Rattle.vortex_dict_builders.proofs.strings.put_newest.Goals as goal

pub returns : goal.returns
returns c = let put = succeeded c.insert.result (c.insert.ensures.succeeds (omega (arith, c.requires))) c.insert.ensures.updates in put.0
