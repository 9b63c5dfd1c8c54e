use Rattle.std.proofs.Common.{◌≡◌, ◌∙◌, sym, ap, refl, Ok, Err, Some, slice_get}
use Rattle.std.proofs.lemmas.Option.{get_or_from_slice_get}
use Rattle.vortex_scan.specs.Steps.{computed}
use Rattle.vortex_scan.specs.declared.item.Item.{Item}
use Rattle.vortex_scan.specs.declared.errors.RunError.TheVariants as error
use Rattle.vortex_scan.specs.declared.state.State.TheVariants.{Done, Waiting, NeedsCompute}
use Rattle.vortex_scan.proofs.Kept.{each_same}
use Rattle.vortex_scan.proofs.Outcomes.{if_err, if_ok}
use Rattle.vortex_scan.proofs.Places.{get_set}
use Rattle.vortex_scan.proofs.visit.visit.Goals as goal

pub returns-in-Done-clause-ok : goal.returns-in-Done-clause-ok
returns-in-Done-clause-ok g c = λ item at.
    let same : c.index-item.result.now ≡ item = c.index-item.ensures ∙ get_or_from_slice_get c.args.items.now.items c.args.at item c.index-item.result.now at in
    let shown : g.W.Worker.state_is item.work ≡ Done = rw same at (sym c.in-Done.ensures) in
    rw shown (c.retire.ensures.step item c.args.next_owner.now at)

pub returns-in-Done-clause-sources : goal.returns-in-Done-clause-sources
returns-in-Done-clause-sources g c = c.retire.ensures.sources

pub returns-in-Waiting-clause-ok : goal.returns-in-Waiting-clause-ok
returns-in-Waiting-clause-ok g c =
    if_ok _ _ c.settle.result (λ answer settled. λ item at.
    let same : c.index-item.result.now ≡ item = c.index-item.ensures ∙ get_or_from_slice_get c.args.items.now.items c.args.at item c.index-item.result.now at in
    let shown : g.W.Worker.state_is item.work ≡ Waiting = rw same at (sym c.in-Waiting.ensures) in
    rw shown (rw shown at (settled item c.args.next_owner.now at))) c.settle.ensures.ok

pub returns-in-Ok-clause-ok : goal.returns-in-Ok-clause-ok
returns-in-Ok-clause-ok g c =
    if_ok _ _ c.follow.result (λ answer follows. λ item at.
    let same : c.index-item.result.now ≡ item = c.index-item.ensures ∙ get_or_from_slice_get c.args.items.now.items c.args.at item c.index-item.result.now at in
    let shown : g.W.Worker.state_is item.work ≡ NeedsCompute = rw same at (sym c.in-NeedsCompute.ensures) in
    let did = c.in-Ok.ensures item at in
    let there : slice_get c.compute.new.items.items c.args.at ≡ Some (computed item did.0) = rw did.2 (get_set c.args.items.now.items c.args.at item (computed item did.0) at) in
    rw shown (c.in-Ok.output, did.0, did.1, rw did.2 at (follows (computed item did.0) there))) c.follow.ensures.ok

pub returns-in-Ok-clause-err : goal.returns-in-Ok-clause-err
returns-in-Ok-clause-err g c =
    if_err _ _ c.follow.result (λ why fails. λ item at.
    let same : c.index-item.result.now ≡ item = c.index-item.ensures ∙ get_or_from_slice_get c.args.items.now.items c.args.at item c.index-item.result.now at in
    let shown : g.W.Worker.state_is item.work ≡ NeedsCompute = rw same at (sym c.in-NeedsCompute.ensures) in
    let did = c.in-Ok.ensures item at in
    let there : slice_get c.compute.new.items.items c.args.at ≡ Some (computed item did.0) = rw did.2 (get_set c.args.items.now.items c.args.at item (computed item did.0) at) in
    rw shown (Ok c.in-Ok.output, did.0, did.1, rw did.2 at (fails (computed item did.0) there))) c.follow.ensures.err

pub returns-in-Err-clause-err : goal.returns-in-Err-clause-err
returns-in-Err-clause-err g c = λ item at.
    let same : c.index-item.result.now ≡ item = c.index-item.ensures ∙ get_or_from_slice_get c.args.items.now.items c.args.at item c.index-item.result.now at in
    let shown : g.W.Worker.state_is item.work ≡ NeedsCompute = rw same at (sym c.in-NeedsCompute.ensures) in
    let did = c.in-Err.ensures item at in
    rw shown (Err c.in-Err.error, did.0, did.1, ap (λ (x : Item _). error.Planner x.root c.in-Err.error) same)

pub returns-in-Err-clause-sources : goal.returns-in-Err-clause-sources
returns-in-Err-clause-sources g c = each_same g.S.IoSource c.args.slots.now.items

pub returns-in-Waiting-clause-given : goal.returns-in-Waiting-clause-given
returns-in-Waiting-clause-given g c =
    if_err _ _ c.settle.result (λ why kept. λ item at.
    let same : c.index-item.result.now ≡ item = c.index-item.ensures ∙ get_or_from_slice_get c.args.items.now.items c.args.at item c.index-item.result.now at in
    let shown : g.W.Worker.state_is item.work ≡ Waiting = rw same at (sym c.in-Waiting.ensures) in
    rw shown kept) c.settle.ensures.given

pub returns-in-Ok-clause-given : goal.returns-in-Ok-clause-given
returns-in-Ok-clause-given g c =
    if_err _ _ c.follow.result (λ why given. λ item at.
    let same : c.index-item.result.now ≡ item = c.index-item.ensures ∙ get_or_from_slice_get c.args.items.now.items c.args.at item c.index-item.result.now at in
    let shown : g.W.Worker.state_is item.work ≡ NeedsCompute = rw same at (sym c.in-NeedsCompute.ensures) in
    let did = c.in-Ok.ensures item at in
    let there : slice_get c.compute.new.items.items c.args.at ≡ Some (computed item did.0) = rw did.2 (get_set c.args.items.now.items c.args.at item (computed item did.0) at) in
    rw shown (Ok c.in-Ok.output, did.0, did.1, given (computed item did.0) there)) c.follow.ensures.given

pub returns-in-Err-clause-given : goal.returns-in-Err-clause-given
returns-in-Err-clause-given g c = λ item at.
    let same : c.index-item.result.now ≡ item = c.index-item.ensures ∙ get_or_from_slice_get c.args.items.now.items c.args.at item c.index-item.result.now at in
    let shown : g.W.Worker.state_is item.work ≡ NeedsCompute = rw same at (sym c.in-NeedsCompute.ensures) in
    let did = c.in-Err.ensures item at in
    rw shown (Err c.in-Err.error, did.0, did.1, refl)
