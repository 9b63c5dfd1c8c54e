use Rattle.vortex_scan.proofs.turn.visit_and_answer.Goals as goal

pub returns-in-Ok-clause-ok : goal.returns-in-Ok-clause-ok
returns-in-Ok-clause-ok g c = (c.in-Ok.visited, c.progress_of.ensures, c.in-Ok.ensures.ok)
