use Rattle.std.proofs.Common.{refl}
use Rattle.vortex_array_types.specs.Seen.{value_seen}
use Rattle.vortex_array.proofs.TextKinds.{no-text}
use Rattle.vortex_array.proofs.like.text_of.Goals as goal

pub unreachable-requires : goal.unreachable-requires
unreachable-requires c = no-text c.args.dtype (value_seen c.args.lent) c.requires.texts c.requires.fits (rw c.in-Bool.is refl)

pub unreachable-requires-in-Int : goal.unreachable-requires-in-Int
unreachable-requires-in-Int c = no-text c.args.dtype (value_seen c.args.lent) c.requires.texts c.requires.fits (rw c.in-Int.is refl)

pub unreachable-requires-in-Decimal : goal.unreachable-requires-in-Decimal
unreachable-requires-in-Decimal c = no-text c.args.dtype (value_seen c.args.lent) c.requires.texts c.requires.fits (rw c.in-Decimal.is refl)

pub unreachable-requires-in-Binary : goal.unreachable-requires-in-Binary
unreachable-requires-in-Binary c = no-text c.args.dtype (value_seen c.args.lent) c.requires.texts c.requires.fits (rw c.in-Binary.is refl)
