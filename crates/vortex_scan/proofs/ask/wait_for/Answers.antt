use Rattle.std.proofs.Common.{◌≡◌, refl, inl, inr, Some, slice_get}
use Rattle.std.proofs.lemmas.Option.{slice_get_read}
use Rattle.vortex_scan.proofs.Kept.{each_called}
use Rattle.vortex_scan.proofs.ask.wait_for.Goals as goal

pub returns-in-Ok-deliver-clause-ok : goal.returns-in-Ok-deliver-clause-ok
returns-in-Ok-deliver-clause-ok g c = λ owners.
    let there : slice_get c.args.slots.now.items c.args.root.0 ≡ Some c.index_mut-slot.result.now = slice_get_read _ _ _ _ refl c.requires.in_range c.index_mut-slot.ensures.value in
    let live = c.requires.live c.index_mut-slot.result.now there in
    record { slot = c.index_mut-slot.result.now; there = there; live = live; after = c.wait.new.source; completion = c.in-Ok.completion; waits = c.in-Ok.ensures; delivers = c.in-Ok-deliver.ensures; now = refl }

pub returns-in-Err-clause-err : goal.returns-in-Err-clause-err
returns-in-Err-clause-err g c = λ owners.
    let there : slice_get c.args.slots.now.items c.args.root.0 ≡ Some c.index_mut-slot.result.now = slice_get_read _ _ _ _ refl c.requires.in_range c.index_mut-slot.ensures.value in
    let live = c.requires.live c.index_mut-slot.result.now there in
    inr (inr (record { slot = c.index_mut-slot.result.now; there = there; live = live; after = c.wait.new.source; completion = c.in-Ok.completion; waits = c.in-Ok.ensures; fails = c.in-Err.ensures; now = refl }))

pub returns-in-Ok-deliver-clause-sources : goal.returns-in-Ok-deliver-clause-sources
returns-in-Ok-deliver-clause-sources g c =
    let there : slice_get c.args.slots.now.items c.args.root.0 ≡ Some c.index_mut-slot.result.now = slice_get_read _ _ _ _ refl c.requires.in_range c.index_mut-slot.ensures.value in
    each_called g.S.IoSource c.args.slots.now.items c.args.root.0 c.index_mut-slot.result.now c.wait.new.source there c.wait.ensures.keeps

pub returns-in-Err-clause-sources : goal.returns-in-Err-clause-sources
returns-in-Err-clause-sources g c =
    let there : slice_get c.args.slots.now.items c.args.root.0 ≡ Some c.index_mut-slot.result.now = slice_get_read _ _ _ _ refl c.requires.in_range c.index_mut-slot.ensures.value in
    each_called g.S.IoSource c.args.slots.now.items c.args.root.0 c.index_mut-slot.result.now c.wait.new.source there c.wait.ensures.keeps

pub returns-in-Err-Fault-clause-sources : goal.returns-in-Err-Fault-clause-sources
returns-in-Err-Fault-clause-sources g c =
    let there : slice_get c.args.slots.now.items c.args.root.0 ≡ Some c.index_mut-slot.result.now = slice_get_read _ _ _ _ refl c.requires.in_range c.index_mut-slot.ensures.value in
    each_called g.S.IoSource c.args.slots.now.items c.args.root.0 c.index_mut-slot.result.now c.wait.new.source there c.wait.ensures.keeps

pub returns-in-Err-OutOfMemory-clause-sources : goal.returns-in-Err-OutOfMemory-clause-sources
returns-in-Err-OutOfMemory-clause-sources g c =
    let there : slice_get c.args.slots.now.items c.args.root.0 ≡ Some c.index_mut-slot.result.now = slice_get_read _ _ _ _ refl c.requires.in_range c.index_mut-slot.ensures.value in
    each_called g.S.IoSource c.args.slots.now.items c.args.root.0 c.index_mut-slot.result.now c.wait.new.source there c.wait.ensures.keeps

pub returns-in-Err-Fault-clause-err : goal.returns-in-Err-Fault-clause-err
returns-in-Err-Fault-clause-err g c = λ owners.
    let there : slice_get c.args.slots.now.items c.args.root.0 ≡ Some c.index_mut-slot.result.now = slice_get_read _ _ _ _ refl c.requires.in_range c.index_mut-slot.ensures.value in
    let live = c.requires.live c.index_mut-slot.result.now there in
    let waits = rw c.in-Err-Fault.field-0-is at c.in-Err-Fault.ensures in
    inr (inl (refl, record { slot = c.index_mut-slot.result.now; there = there; live = live; after = c.wait.new.source; waits = waits; now = refl }))

pub returns-in-Err-OutOfMemory-clause-err : goal.returns-in-Err-OutOfMemory-clause-err
returns-in-Err-OutOfMemory-clause-err g c = λ owners.
    let there : slice_get c.args.slots.now.items c.args.root.0 ≡ Some c.index_mut-slot.result.now = slice_get_read _ _ _ _ refl c.requires.in_range c.index_mut-slot.ensures.value in
    let live = c.requires.live c.index_mut-slot.result.now there in
    let waits = rw c.in-Err-OutOfMemory.field-0-is at c.in-Err-OutOfMemory.ensures in
    inl (refl, record { slot = c.index_mut-slot.result.now; there = there; live = live; after = c.wait.new.source; waits = waits; now = refl })
