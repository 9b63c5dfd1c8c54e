use Rattle.vortex_table.proofs.Oldest.{completes_oldest, refused_wait, waited_oldest}
use Rattle.vortex_table.proofs.partition.wait_oldest.Goals as goal

pub returns-in-Ok-clause-ok : goal.returns-in-Ok-clause-ok
returns-in-Ok-clause-ok c = completes_oldest c.args.source.now c.wait.new.self c.in-Ok.completion c.requires.arrives c.in-Ok.ensures.waits

pub returns-in-Ok-clause-waited : goal.returns-in-Ok-clause-waited
returns-in-Ok-clause-waited c = waited_oldest c.args.source.now c.wait.new.self c.in-Ok.completion c.requires.arrives c.in-Ok.ensures.waits

pub returns-in-Err-clause-err : goal.returns-in-Err-clause-err
returns-in-Err-clause-err c = refused_wait c.args.source.now c.wait.new.self c.in-Err.field-0 c.in-Err.ensures.waits
