use Rattle.std.proofs.Common.{refl}
use Rattle.vortex_io.specs.declared.request.IoError.TheVariants as error
use Rattle.worked_runs.proofs.drained.list.Goals as goal

pub returns-in-Ok-clause-all : goal.returns-in-Ok-clause-all
returns-in-Ok-clause-all c = λ test. rw c.new.ensures at (c.in-Ok.ensures.all c.args.source.chunks refl test)

pub returns-in-Err-clause-fault : goal.returns-in-Err-clause-fault
returns-in-Err-clause-fault c = λ e. rw c.new.ensures at (c.in-Err.ensures.permitted c.args.source.chunks refl error.Fault e)
