use Rattle.std.proofs.Common.{◌≡◌, refl, inl, inr, None, Some, slice_get}
use Rattle.std.proofs.lemmas.Option.{slice_get_read}
use Rattle.vortex_scan.proofs.Kept.{each_called}
use Rattle.vortex_scan.proofs.ask.ask.Goals as goal

pub returns-in-Ok-clause-ok : goal.returns-in-Ok-clause-ok
returns-in-Ok-clause-ok g c = λ owners.
    let there : slice_get c.args.slots.now.items c.args.root.0 ≡ Some c.index_mut-slot.result.now = slice_get_read _ _ _ _ refl c.requires.in_range c.index_mut-slot.ensures.value in
    let live = c.requires.live c.index_mut-slot.result.now there in
    let polls = rw c.in-Ok-Some.field-0-is at c.in-Ok-Some.ensures in
    (Some c.in-Ok-Some.completion, record { slot = c.index_mut-slot.result.now; there = there; live = live; after = c.poll.new.source; polls = polls; delivers = c.in-Ok.ensures; now = refl }, refl)

pub returns-in-Ok-None-clause-ok : goal.returns-in-Ok-None-clause-ok
returns-in-Ok-None-clause-ok g c = λ owners.
    let there : slice_get c.args.slots.now.items c.args.root.0 ≡ Some c.index_mut-slot.result.now = slice_get_read _ _ _ _ refl c.requires.in_range c.index_mut-slot.ensures.value in
    let live = c.requires.live c.index_mut-slot.result.now there in
    let polls = rw c.in-Ok-None.field-0-is at c.in-Ok-None.ensures in
    (None, record { slot = c.index_mut-slot.result.now; there = there; live = live; after = c.poll.new.source; polls = polls; delivers = refl; now = refl }, refl)

pub returns-in-Err-clause-err : goal.returns-in-Err-clause-err
returns-in-Err-clause-err g c = λ owners.
    let there : slice_get c.args.slots.now.items c.args.root.0 ≡ Some c.index_mut-slot.result.now = slice_get_read _ _ _ _ refl c.requires.in_range c.index_mut-slot.ensures.value in
    let live = c.requires.live c.index_mut-slot.result.now there in
    let polls = rw c.in-Ok-Some.field-0-is at c.in-Ok-Some.ensures in
    inr (inr (record { slot = c.index_mut-slot.result.now; there = there; live = live; after = c.poll.new.source; completion = c.in-Ok-Some.completion; polls = polls; fails = c.in-Err.ensures; now = refl }))

pub returns-in-Ok-clause-sources : goal.returns-in-Ok-clause-sources
returns-in-Ok-clause-sources g c =
    let there : slice_get c.args.slots.now.items c.args.root.0 ≡ Some c.index_mut-slot.result.now = slice_get_read _ _ _ _ refl c.requires.in_range c.index_mut-slot.ensures.value in
    each_called g.S.IoSource c.args.slots.now.items c.args.root.0 c.index_mut-slot.result.now c.poll.new.source there c.poll.ensures.keeps

pub returns-in-Err-clause-sources : goal.returns-in-Err-clause-sources
returns-in-Err-clause-sources g c =
    let there : slice_get c.args.slots.now.items c.args.root.0 ≡ Some c.index_mut-slot.result.now = slice_get_read _ _ _ _ refl c.requires.in_range c.index_mut-slot.ensures.value in
    each_called g.S.IoSource c.args.slots.now.items c.args.root.0 c.index_mut-slot.result.now c.poll.new.source there c.poll.ensures.keeps

pub returns-in-Ok-None-clause-sources : goal.returns-in-Ok-None-clause-sources
returns-in-Ok-None-clause-sources g c =
    let there : slice_get c.args.slots.now.items c.args.root.0 ≡ Some c.index_mut-slot.result.now = slice_get_read _ _ _ _ refl c.requires.in_range c.index_mut-slot.ensures.value in
    each_called g.S.IoSource c.args.slots.now.items c.args.root.0 c.index_mut-slot.result.now c.poll.new.source there c.poll.ensures.keeps

pub returns-in-Err-Fault-clause-sources : goal.returns-in-Err-Fault-clause-sources
returns-in-Err-Fault-clause-sources g c =
    let there : slice_get c.args.slots.now.items c.args.root.0 ≡ Some c.index_mut-slot.result.now = slice_get_read _ _ _ _ refl c.requires.in_range c.index_mut-slot.ensures.value in
    each_called g.S.IoSource c.args.slots.now.items c.args.root.0 c.index_mut-slot.result.now c.poll.new.source there c.poll.ensures.keeps

pub returns-in-Err-OutOfMemory-clause-sources : goal.returns-in-Err-OutOfMemory-clause-sources
returns-in-Err-OutOfMemory-clause-sources g c =
    let there : slice_get c.args.slots.now.items c.args.root.0 ≡ Some c.index_mut-slot.result.now = slice_get_read _ _ _ _ refl c.requires.in_range c.index_mut-slot.ensures.value in
    each_called g.S.IoSource c.args.slots.now.items c.args.root.0 c.index_mut-slot.result.now c.poll.new.source there c.poll.ensures.keeps

pub returns-in-Err-Fault-clause-err : goal.returns-in-Err-Fault-clause-err
returns-in-Err-Fault-clause-err g c = λ owners.
    let there : slice_get c.args.slots.now.items c.args.root.0 ≡ Some c.index_mut-slot.result.now = slice_get_read _ _ _ _ refl c.requires.in_range c.index_mut-slot.ensures.value in
    let live = c.requires.live c.index_mut-slot.result.now there in
    let polls = rw c.in-Err-Fault.field-0-is at c.in-Err-Fault.ensures in
    inr (inl (refl, record { slot = c.index_mut-slot.result.now; there = there; live = live; after = c.poll.new.source; polls = polls; now = refl }))

pub returns-in-Err-OutOfMemory-clause-err : goal.returns-in-Err-OutOfMemory-clause-err
returns-in-Err-OutOfMemory-clause-err g c = λ owners.
    let there : slice_get c.args.slots.now.items c.args.root.0 ≡ Some c.index_mut-slot.result.now = slice_get_read _ _ _ _ refl c.requires.in_range c.index_mut-slot.ensures.value in
    let live = c.requires.live c.index_mut-slot.result.now there in
    let polls = rw c.in-Err-OutOfMemory.field-0-is at c.in-Err-OutOfMemory.ensures in
    inl (refl, record { slot = c.index_mut-slot.result.now; there = there; live = live; after = c.poll.new.source; polls = polls; now = refl })
