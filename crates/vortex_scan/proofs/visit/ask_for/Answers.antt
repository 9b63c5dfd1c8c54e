use Rattle.std.proofs.Common.{◌≡◌, ◌∙◌, ap, inr, length}
use Rattle.std.proofs.Math.ListN.{length-set}
use Rattle.vortex_scan.specs.RunState.{live_with}
use Rattle.vortex_scan.specs.Steps.{published}
use Rattle.vortex_scan.proofs.Outcomes.{if_err, if_ok}
use Rattle.vortex_scan.proofs.Places.{some_at}
use Rattle.vortex_scan.proofs.Kept.{each_on, each_long}
use Rattle.vortex_scan.proofs.Leaving.{given_once, items_published, there_published}
use Rattle.vortex_scan.proofs.visit.ask_for.Goals as goal

pub settle-requires-clause-in_range : goal.settle-requires-clause-in_range
settle-requires-clause-in_range g c =
    let it = some_at c.args.items.now.items c.args.at c.requires.in_range in
    let p = c.in_ok-publish.ensures.ok it.0 0 it.1 in
    let e = ap length (items_published g.S.IoSource c.args.at it.0 c.args.batch p) ∙ length-set c.args.items.now.items c.args.at (published it.0 c.args.batch) in
    let h = c.requires.in_range in
    rw e h

pub settle-requires-clause-known : goal.settle-requires-clause-known
settle-requires-clause-known g c = λ item at.
    let it = some_at c.args.items.now.items c.args.at c.requires.in_range in
    let p = c.in_ok-publish.ensures.ok it.0 0 it.1 in
    let there = there_published g.S.IoSource c.args.at it.0 c.args.batch it.1 p in
    let same : item ≡ published it.0 c.args.batch = cc in
    rw (same, each_long g.S.IoSource c.args.slots.now.items c.publish.new.slots.items c.in_ok-publish.ensures.sources) (c.requires.known it.0 it.1)

pub returns-clause-ok : goal.returns-clause-ok
returns-clause-ok g c =
    if_ok _ _ c.settle.result (λ answer settled. λ item owners at.
    let p = c.in_ok-publish.ensures.ok item owners at in
    let there = there_published g.S.IoSource c.args.at item c.args.batch at p in
    (live_with c.publish.new.items.items c.publish.new.slots.items owners, p, settled (published item c.args.batch) owners there)) c.settle.ensures.ok

pub returns-clause-err : goal.returns-clause-err
returns-clause-err g c =
    if_err _ _ c.settle.result (λ why fails. λ item owners at.
    let p = c.in_ok-publish.ensures.ok item owners at in
    let there = there_published g.S.IoSource c.args.at item c.args.batch at p in
    inr (inr (inr (inr (fails (published item c.args.batch) there))))) c.settle.ensures.err

pub returns-clause-sources : goal.returns-clause-sources
returns-clause-sources g c = each_on g.S.IoSource c.args.slots.now.items c.publish.new.slots.items c.settle.new.slots.items c.in_ok-publish.ensures.sources c.settle.ensures.sources

pub returns-clause-given : goal.returns-clause-given
returns-clause-given g c =
    if_err _ _ c.settle.result (λ why same. λ item at.
    let p = c.in_ok-publish.ensures.ok item 0 at in
    inr (rw same (given_once g.S.IoSource c.args.at item c.args.batch c.args.items.now.items c.publish.new.items.items c.args.slots.now.items c.publish.new.slots.items 0 p))) c.settle.ensures.given
