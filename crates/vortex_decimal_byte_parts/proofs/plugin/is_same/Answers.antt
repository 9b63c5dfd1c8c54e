use Rattle.std.proofs.Common.{◌≡◌, true}
use Rattle.std.specs.Str.{bytes_eq}
use Rattle.std.proofs.lemmas.Slice.Eq.{bytes_eq-Decides}
use Rattle.vortex_decimal_byte_parts.proofs.plugin.is_same.Goals as goal

pub returns-clause-same : goal.returns-clause-same
returns-clause-same c = λ h. let same : bytes_eq c.args.id.now c.args.known.now ≡ true = cc in (bytes_eq-Decides c.args.id.now c.args.known.now).0 same

pub returns-clause-other : goal.returns-clause-other
returns-clause-other c = λ h e. let same : bytes_eq c.args.id.now c.args.known.now ≡ true = (bytes_eq-Decides c.args.id.now c.args.known.now).1 e in absurd (cc)
