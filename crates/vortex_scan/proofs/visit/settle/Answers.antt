use Rattle.std.proofs.Common.{◌≡◌, ◌≢◌, ◌∙◌, sym, ap, refl, [], true}
use Rattle.std.proofs.lemmas.Option.{get_or_from_slice_get}
use Rattle.vortex_scan.specs.declared.item.Item.{Item}
use Rattle.vortex_scan.specs.RunState.{live_with}
use Rattle.vortex_scan.specs.declared.state.State.TheVariants.{Done, Waiting, NeedsCompute}
use Rattle.vortex_scan.proofs.Kept.{each_same}
use Rattle.vortex_scan.proofs.visit.settle.Goals as goal

pub returns-then-is_empty-clause-sources : goal.returns-then-is_empty-clause-sources
returns-then-is_empty-clause-sources g c = each_same g.S.IoSource c.args.slots.now.items

pub returns-in-Done-clause-ok : goal.returns-in-Done-clause-ok
returns-in-Done-clause-ok g c = λ item owners at.
    let same : c.index-item.result.now ≡ item = c.index-item.ensures ∙ get_or_from_slice_get c.args.items.now.items c.args.at item c.index-item.result.now at in
    let shown : g.W.Worker.state_is item.work ≡ Done = rw same at (sym c.in-Done.ensures) in
    rw shown (c.retire.ensures.step item owners at)

pub returns-in-Done-clause-sources : goal.returns-in-Done-clause-sources
returns-in-Done-clause-sources g c = c.retire.ensures.sources

pub returns-in-NeedsCompute-clause-ok : goal.returns-in-NeedsCompute-clause-ok
returns-in-NeedsCompute-clause-ok g c = λ item owners at.
    let same : c.index-item.result.now ≡ item = c.index-item.ensures ∙ get_or_from_slice_get c.args.items.now.items c.args.at item c.index-item.result.now at in
    let shown : g.W.Worker.state_is item.work ≡ NeedsCompute = rw same at (sym c.in-NeedsCompute.ensures) in
    rw shown (refl, refl)

pub returns-in-NeedsCompute-clause-sources : goal.returns-in-NeedsCompute-clause-sources
returns-in-NeedsCompute-clause-sources g c = each_same g.S.IoSource c.args.slots.now.items

pub returns-else-is_empty-clause-ok : goal.returns-else-is_empty-clause-ok
returns-else-is_empty-clause-ok g c = λ item owners at.
    let same : c.index-item.result.now ≡ item = c.index-item.ensures ∙ get_or_from_slice_get c.args.items.now.items c.args.at item c.index-item.result.now at in
    let shown : g.W.Worker.state_is item.work ≡ Waiting = rw same at (sym c.in-Waiting.ensures) in
    let some : item.asked ≢ [] = λ none. let t : c.is_empty.result ≡ true = c.is_empty.ensures.1 (ap (λ (x : Item _). x.asked) same ∙ none) in let f = c.if-is_empty.false in cc in
    rw shown (some, ap (λ z. live_with z c.args.slots.now.items owners) (c.park.ensures item at), refl)

pub returns-else-is_empty-clause-sources : goal.returns-else-is_empty-clause-sources
returns-else-is_empty-clause-sources g c = each_same g.S.IoSource c.args.slots.now.items
