use Rattle.std.proofs.Common.{◌≡◌, ◌∙◌, ap, inr, refl, Some, slice_get}
use Rattle.std.proofs.Math.ListN.{set}
use Rattle.std.proofs.lemmas.Option.{get_or_from_slice_get, slice_get_read}
use Rattle.vortex_io.specs.declared.request.IoError.TheVariants.{Fault, OutOfMemory}
use Rattle.vortex_scan.specs.declared.item.Slot.{Slot}
use Rattle.vortex_scan.proofs.Kept.{each_called}
use Rattle.vortex_scan.proofs.publish.submit_to.Goals as goal

pub returns-in-Ok-clause-ok : goal.returns-in-Ok-clause-ok
returns-in-Ok-clause-ok g c = λ slot at.
    let same : c.index_mut-slot.result.now ≡ slot = c.index_mut-slot.ensures.value ∙ get_or_from_slice_get c.args.slots.now.items c.args.root.0 slot c.index_mut-slot.result.now at in
    (c.submit.new.source, rw same at c.in-Ok.ensures, ap (λ (s : Slot _). set c.args.slots.now.items c.args.root.0 (record s { source = c.submit.new.source })) same)

pub returns-in-Err-Fault-clause-err : goal.returns-in-Err-Fault-clause-err
returns-in-Err-Fault-clause-err g c =
    inr (
      refl,
      λ slot at.
          let same : c.index_mut-slot.result.now ≡ slot = c.index_mut-slot.ensures.value ∙ get_or_from_slice_get c.args.slots.now.items c.args.root.0 slot c.index_mut-slot.result.now at in
          let told = rw c.in-Err-Fault.field-0-is at c.in-Err-Fault.ensures in
          (c.submit.new.source, rw same at told, ap (λ (s : Slot _). set c.args.slots.now.items c.args.root.0 (record s { source = c.submit.new.source })) same),
    )

pub returns-in-Ok-clause-sources : goal.returns-in-Ok-clause-sources
returns-in-Ok-clause-sources g c =
    let there : slice_get c.args.slots.now.items c.args.root.0 ≡ Some c.index_mut-slot.result.now = slice_get_read _ _ _ _ refl c.requires c.index_mut-slot.ensures.value in
    each_called g.S.IoSource c.args.slots.now.items c.args.root.0 c.index_mut-slot.result.now c.submit.new.source there c.submit.ensures.keeps

pub returns-in-Err-Fault-clause-sources : goal.returns-in-Err-Fault-clause-sources
returns-in-Err-Fault-clause-sources g c =
    let there : slice_get c.args.slots.now.items c.args.root.0 ≡ Some c.index_mut-slot.result.now = slice_get_read _ _ _ _ refl c.requires c.index_mut-slot.ensures.value in
    each_called g.S.IoSource c.args.slots.now.items c.args.root.0 c.index_mut-slot.result.now c.submit.new.source there c.submit.ensures.keeps

pub returns-in-Err-OutOfMemory-clause-sources : goal.returns-in-Err-OutOfMemory-clause-sources
returns-in-Err-OutOfMemory-clause-sources g c =
    let there : slice_get c.args.slots.now.items c.args.root.0 ≡ Some c.index_mut-slot.result.now = slice_get_read _ _ _ _ refl c.requires c.index_mut-slot.ensures.value in
    each_called g.S.IoSource c.args.slots.now.items c.args.root.0 c.index_mut-slot.result.now c.submit.new.source there c.submit.ensures.keeps

pub returns-in-Err-Fault-clause-given : goal.returns-in-Err-Fault-clause-given
returns-in-Err-Fault-clause-given g c = λ slot at.
    let same : c.index_mut-slot.result.now ≡ slot = c.index_mut-slot.ensures.value ∙ get_or_from_slice_get c.args.slots.now.items c.args.root.0 slot c.index_mut-slot.result.now at in
    let told = rw c.in-Err-Fault.field-0-is at c.in-Err-Fault.ensures in
    (Fault, c.submit.new.source, rw same at told, ap (λ (s : Slot _). set c.args.slots.now.items c.args.root.0 (record s { source = c.submit.new.source })) same)

pub returns-in-Err-OutOfMemory-clause-given : goal.returns-in-Err-OutOfMemory-clause-given
returns-in-Err-OutOfMemory-clause-given g c = λ slot at.
    let same : c.index_mut-slot.result.now ≡ slot = c.index_mut-slot.ensures.value ∙ get_or_from_slice_get c.args.slots.now.items c.args.root.0 slot c.index_mut-slot.result.now at in
    let told = rw c.in-Err-OutOfMemory.field-0-is at c.in-Err-OutOfMemory.ensures in
    (OutOfMemory, c.submit.new.source, rw same at told, ap (λ (s : Slot _). set c.args.slots.now.items c.args.root.0 (record s { source = c.submit.new.source })) same)
