use Rattle.std.proofs.Common.{refl, suc, arith}
use Rattle.vortex_scan.specs.Going.{state_with}
use Rattle.vortex_scan.specs.declared.errors.Visited.TheVariants.{Went}
use Rattle.vortex_scan.proofs.Kept.{each_on, each_same}
use Rattle.vortex_scan.proofs.Turning.{ends_fits, turn_counts, turn_fits}
use Rattle.vortex_scan.proofs.turn.go_on.Goals as goal

pub turns-init : goal.turns-init
turns-init g c = record { goes = λ roots. (0, refl); fits = c.requires; kept = each_same g.S.IoSource c.args.slots.now.items }

pub returns-in-Err-clause-err : goal.returns-in-Err-clause-err
returns-in-Err-clause-err g c = λ roots.
    let goes = c.turns.invariant.goes roots in
    record { turns = goes.0; between = state_with c.turns.items.items c.turns.slots.items c.turns.next_owner c.turns.counts roots; goes = goes.1; fails = c.in-Err.ensures.err roots }

pub returns-in-Err-clause-sources : goal.returns-in-Err-clause-sources
returns-in-Err-clause-sources g c = each_on g.S.IoSource c.args.slots.now.items c.turns.slots.items c.turn.new.slots.items c.turns.invariant.kept c.turn.ensures.sources

pub returns-in-Ok-Some-clause-ok : goal.returns-in-Ok-Some-clause-ok
returns-in-Ok-Some-clause-ok g c = λ roots.
    let goes = c.turns.invariant.goes roots in
    let last = rw c.in-Ok-Some.field-0-is at c.in-Ok-Some.ensures.ok in
    record { turns = goes.0; between = state_with c.turns.items.items c.turns.slots.items c.turns.next_owner c.turns.counts roots; goes = goes.1; ends = last roots }

pub returns-in-Ok-Some-clause-fits : goal.returns-in-Ok-Some-clause-fits
returns-in-Ok-Some-clause-fits g c =
    let last = rw c.in-Ok-Some.field-0-is at c.in-Ok-Some.ensures.ok in
    ends_fits g.W.Worker g.S.IoSource g.W.Payload.Payload (state_with c.turns.items.items c.turns.slots.items c.turns.next_owner c.turns.counts 0)
    (state_with c.turn.new.items.items c.turn.new.slots.items c.turn.new.next_owner c.turn.new.counts 0) c.in-Ok-Some.answer c.turns.invariant.fits (last 0)

pub returns-in-Ok-Some-clause-sources : goal.returns-in-Ok-Some-clause-sources
returns-in-Ok-Some-clause-sources g c = each_on g.S.IoSource c.args.slots.now.items c.turns.slots.items c.turn.new.slots.items c.turns.invariant.kept c.turn.ensures.sources

pub turns-smaller : goal.turns-smaller
turns-smaller g c =
    let went = rw c.in-Ok-None.field-0-is at c.in-Ok-None.ensures.ok in
    let t = turn_counts g.W.Worker g.S.IoSource g.W.Payload.Payload (state_with c.turns.items.items c.turns.slots.items c.turns.next_owner c.turns.counts 0)
    (state_with c.turn.new.items.items c.turn.new.slots.items c.turn.new.next_owner c.turn.new.counts 0) Went (went 0) in
    omega (arith, t.0, t.1, t.2)

pub turns-preserved : goal.turns-preserved
turns-preserved g c =
    let went = rw c.in-Ok-None.field-0-is at c.in-Ok-None.ensures.ok in
    record {
      goes = λ roots.
          let goes = c.turns.invariant.goes roots in
          (suc goes.0, (state_with c.turns.items.items c.turns.slots.items c.turns.next_owner c.turns.counts roots, goes.1, went roots));
      fits = turn_fits g.W.Worker g.S.IoSource g.W.Payload.Payload (state_with c.turns.items.items c.turns.slots.items c.turns.next_owner c.turns.counts 0)
          (state_with c.turn.new.items.items c.turn.new.slots.items c.turn.new.next_owner c.turn.new.counts 0) Went c.turns.invariant.fits (went 0);
      kept = each_on g.S.IoSource c.args.slots.now.items c.turns.slots.items c.turn.new.slots.items c.turns.invariant.kept c.turn.ensures.sources;
    }
