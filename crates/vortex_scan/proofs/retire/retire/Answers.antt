use Rattle.std.proofs.Common.{◌≡◌, ◌∙◌, ◌<◌, sym, ap, cond, length, Some, slice_get, refl}
use Rattle.std.proofs.lemmas.Option.{get_or_from_slice_get, slice_get_read}
use Rattle.vortex_scan.specs.RunState.{has_root}
use Rattle.vortex_scan.specs.declared.errors.Visited.TheVariants.{Went, RootDone}
use Rattle.vortex_scan.proofs.Leaving.{retired}
use Rattle.vortex_scan.proofs.Kept.{each_with, slot_left}
use Rattle.vortex_scan.proofs.retire.retire.Goals as goal

pub returns-then-others-clause-step : goal.returns-then-others-clause-step
returns-then-others-clause-step g c = λ item owners at.
    let same : c.remove-item.result ≡ item = c.remove-item.ensures.value ∙ get_or_from_slice_get c.args.items.now.items c.args.at item c.remove-item.result at in
    let within : c.remove-item.result.root.0 < length c.args.slots.now.items = rw same (c.requires.known item at) in
    let there : slice_get c.args.slots.now.items c.remove-item.result.root.0 ≡ Some c.index_mut-slot.result.now = slice_get_read _ _ _ _ refl within c.index_mut-slot.ensures.value in
    let know : c.has_root-others.result ≡ has_root c.remove-item.result.root c.remove-item.new.self.items = c.has_root-others.ensures ∙ ap (has_root c.remove-item.result.root) c.deref.ensures.value in
    let did = c.leave.ensures in
    retired g.S.IoSource c.args.at owners item c.remove-item.result c.args.items.now.items c.remove-item.new.self.items c.args.slots.now.items c.index_mut-slot.result.now c.leave.new.slot did.0 c.has_root-others.result _
    same c.remove-item.ensures.items know there did.1 did.2 did.3 (ap (λ b. cond b Went (RootDone c.remove-item.result.root)) (sym c.if-others.true))

pub returns-clause-step : goal.returns-clause-step
returns-clause-step g c = λ item owners at.
    let same : c.remove-item.result ≡ item = c.remove-item.ensures.value ∙ get_or_from_slice_get c.args.items.now.items c.args.at item c.remove-item.result at in
    let within : c.remove-item.result.root.0 < length c.args.slots.now.items = rw same (c.requires.known item at) in
    let there : slice_get c.args.slots.now.items c.remove-item.result.root.0 ≡ Some c.index_mut-slot.result.now = slice_get_read _ _ _ _ refl within c.index_mut-slot.ensures.value in
    let know : c.has_root-others.result ≡ has_root c.remove-item.result.root c.remove-item.new.self.items = c.has_root-others.ensures ∙ ap (has_root c.remove-item.result.root) c.deref.ensures.value in
    let did = c.leave.ensures in
    retired g.S.IoSource c.args.at owners item c.remove-item.result c.args.items.now.items c.remove-item.new.self.items c.args.slots.now.items c.index_mut-slot.result.now c.leave.new.slot did.0 c.has_root-others.result _
    same c.remove-item.ensures.items know there did.1 did.2 did.3 (ap (λ b. cond b Went (RootDone c.remove-item.result.root)) (sym c.if-others.false))

pub returns-then-others-clause-sources : goal.returns-then-others-clause-sources
returns-then-others-clause-sources g c =
    let here : slice_get c.args.items.now.items c.args.at ≡ Some c.remove-item.result = slice_get_read _ _ _ _ refl c.requires.in_range c.remove-item.ensures.value in
    let there : slice_get c.args.slots.now.items c.remove-item.result.root.0 ≡ Some c.index_mut-slot.result.now = slice_get_read _ _ _ _ refl (c.requires.known c.remove-item.result here) c.index_mut-slot.ensures.value in
    let did = c.leave.ensures in
    each_with g.S.IoSource c.args.slots.now.items c.remove-item.result.root.0 c.index_mut-slot.result.now c.leave.new.slot there (slot_left g.S.IoSource c.remove-item.result.owner c.has_root-others.result c.index_mut-slot.result.now c.leave.new.slot did.0 did.1 did.2 did.3)

pub returns-clause-sources : goal.returns-clause-sources
returns-clause-sources g c =
    let here : slice_get c.args.items.now.items c.args.at ≡ Some c.remove-item.result = slice_get_read _ _ _ _ refl c.requires.in_range c.remove-item.ensures.value in
    let there : slice_get c.args.slots.now.items c.remove-item.result.root.0 ≡ Some c.index_mut-slot.result.now = slice_get_read _ _ _ _ refl (c.requires.known c.remove-item.result here) c.index_mut-slot.ensures.value in
    let did = c.leave.ensures in
    each_with g.S.IoSource c.args.slots.now.items c.remove-item.result.root.0 c.index_mut-slot.result.now c.leave.new.slot there (slot_left g.S.IoSource c.remove-item.result.owner c.has_root-others.result c.index_mut-slot.result.now c.leave.new.slot did.0 did.1 did.2 did.3)
