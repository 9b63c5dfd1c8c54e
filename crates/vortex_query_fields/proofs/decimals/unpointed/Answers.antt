use Rattle.std.proofs.Common.{sym}
use Rattle.vortex_query_fields.specs.Numbers.{digits_spelled}
use Rattle.vortex_query_fields.proofs.Wide.{wide}
use Rattle.vortex_query_fields.proofs.decimals.unpointed.Goals as goal

pub returns-in-None-clause-value : goal.returns-in-None-clause-value
returns-in-None-clause-value c = sym (wide (digits_spelled c.args.whole.now) c.args.scale c.args.precision c.requires.precision (sym c.in-None.ensures))
