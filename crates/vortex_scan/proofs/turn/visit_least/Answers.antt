use Rattle.std.proofs.Common.{ap, inl, inr, refl}
use Rattle.vortex_scan.specs.Going.{state_with}
use Rattle.vortex_scan.specs.declared.counts.Counts.{Counts}
use Rattle.vortex_scan.proofs.Kept.{each_same}
use Rattle.vortex_scan.proofs.Outcomes.{if_err_both, if_ok}
use Rattle.vortex_scan.proofs.Turning.{since_more}
use Rattle.vortex_scan.proofs.turn.visit_least.Goals as goal

pub returns-then-counts-clause-err : goal.returns-then-counts-clause-err
returns-then-counts-clause-err g c = λ roots. let l = c.requires.least in inl (refl, record { reached = c.if-counts.true; at = c.args.at; item = l.0; least = l.1 }, refl)

pub returns-then-counts-clause-sources : goal.returns-then-counts-clause-sources
returns-then-counts-clause-sources g c = each_same g.S.IoSource c.args.slots.now.items

pub returns-clause-ok : goal.returns-clause-ok
returns-clause-ok g c =
    if_ok _ _ c.visit.result (λ came visits. λ roots.
    let l = c.requires.least in
    record {
      room = c.if-counts.false;
      at = c.args.at;
      item = l.0;
      least = l.1;
      visits = visits l.0 l.1.there;
      now = ap (λ k. state_with c.visit.new.items.items c.visit.new.slots.items c.visit.new.next_owner k roots) c.count_visit.ensures;
    }) c.visit.ensures.ok

pub returns-clause-err : goal.returns-clause-err
returns-clause-err g c =
    if_err_both _ _ _ c.visit.result (λ why fails given. λ roots.
    let l = c.requires.least in
    inr (record {
      room = c.if-counts.false;
      at = c.args.at;
      item = l.0;
      least = l.1;
      fails = fails l.0 l.1.there;
      gives = given l.0 l.1.there;
      visits = ap (λ (k : Counts). k.visits) c.count_visit.ensures;
      since = ap (λ (k : Counts). k.since) c.count_visit.ensures;
      sources = c.visit.ensures.sources;
    })) c.visit.ensures.err c.visit.ensures.given

pub returns-clause-since : goal.returns-clause-since
returns-clause-since g c = rw c.count_visit.ensures (since_more c.args.counts.now.since c.requires.since)
