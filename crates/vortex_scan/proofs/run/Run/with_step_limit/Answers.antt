use Rattle.vortex_scan.proofs.run.Run.with_step_limit.Goals as goal

pub invariant_of-run : goal.invariant_of-run
invariant_of-run g c =
    let inv = c.run.invariant in
    record { none = inv.none; enough = inv.enough; fits = λ well. let f = inv.fits well in record { roots = f.roots; live = f.live; peopled = f.peopled; since = f.since }; named = inv.named; planned = inv.planned }
