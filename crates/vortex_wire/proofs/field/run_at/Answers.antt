use Rattle.std.proofs.Common.{arith, drop, length-drop, refl}
use Rattle.std.proofs.lemmas.List.Folds.{drop_split}
use Rattle.std.specs.List.{slice_range}
use Rattle.vortex_wire.proofs.Fields.{no_run, run_found}
use Rattle.vortex_wire.proofs.field.run_at.Goals as goal

pub returns-then-size-bytes-clause-bad : goal.returns-then-size-bytes-clause-bad
returns-then-size-bytes-clause-bad c =
    let bytes = c.args.bytes.now in
    let found = c.in-Ok.ensures.found in
    no_run (drop c.args.at bytes) (slice_range bytes c.args.at c.in-Ok.start) (drop c.in-Ok.start bytes) c.in-Ok.size
    (drop_split bytes c.args.at c.in-Ok.start (omega (arith, found.0))) found.2 (omega (arith, length-drop c.in-Ok.start bytes, c.if-size-bytes.true, found.1))

pub returns-clause-found : goal.returns-clause-found
returns-clause-found c =
    let found = c.in-Ok.ensures.found in
    (refl, run_found c.args.bytes.now c.args.at c.in-Ok.start c.in-Ok.size (omega (arith, found.0)) (omega (arith, c.if-size-bytes.false, found.1)) found.2)
