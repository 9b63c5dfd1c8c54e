-- Why a step fails. Want of memory has no further cause.
use Rattle.std.specs.Prelude.{◌≡◌, ℕ, ◌-◌, ◌^◌, ◌⊎◌, true, false, Some, Result, Ok, Err, List, [], slice_get}
use Rattle.std.specs.List.{list_any}
use Rattle.std.proofs.Math.ListN.{set}
use Rattle.vortex_io.specs.declared.payload.Payload.{Ghosts as Meanings}
use Rattle.vortex_io.specs.declared.request.Completion.{Completion}
use Rattle.vortex_io.specs.declared.request.IoError.{IoError}
use Rattle.vortex_io.specs.declared.request.IoError.TheVariants as cause
use Rattle.vortex_io.specs.declared.request.IoRequest.{IoRequest}
use Rattle.vortex_io.specs.declared.source.IoSource.{Ghosts}
use Rattle.vortex_scan.specs.declared.errors.RunError.{RunError}
use Rattle.vortex_scan.specs.declared.errors.RunError.TheVariants as error
use Rattle.vortex_scan.specs.declared.item.Item.{Item}
use Rattle.vortex_scan.specs.declared.item.Slot.{Slot}
use Rattle.vortex_scan_types.specs.declared.place.RootId.{RootId}
use Rattle.vortex_scan.specs.declared.state.Output.{Output}
use Rattle.vortex_scan.specs.declared.state.Output.TheVariants as output
use Rattle.vortex_scan.specs.declared.state.State.{State}
use Rattle.vortex_scan.specs.declared.state.State.TheVariants as state
use Rattle.vortex_scan.specs.declared.worker.Worker.{Ghosts as Works}
use Rattle.vortex_scan.specs.Fetching.{numbers}
use Rattle.vortex_scan.specs.Numbers.{repeats}
use Rattle.vortex_scan.specs.RunState.{Live, put}
use Rattle.vortex_scan.specs.Sources.{Polls, Submits, Waits}
use Rattle.vortex_scan.specs.Steps.{Computes, Hands, computed, expects, handed, published}

-- the source of a live root failed as it was given a batch
pub record SubmitFaults {W S C : Type 0} (source : Ghosts S C) (item : Item W) (batch : List IoRequest) (old new : Live W S) : Type 0 where
  pub slot : Slot S
  pub there : slice_get old.slots item.root.0 ≡ Some slot
  pub after : S
  pub submits : Submits source item.owner batch (Err cause.Fault) slot.source after
  pub now : new.slots ≡ set old.slots item.root.0 (record slot { source = after })

-- a batch was published that may not be, or its item then waits with nothing outstanding
abbrev pub PublishFails : {W S C E : Type 0} → Works W C E → Ghosts S C → List IoRequest → Item W → Live W S → Live W S → RunError E → Type 0
PublishFails works source batch item old new why =
    ((why ≡ error.EmptyIo) × (batch ≡ []))
    ⊎ (((why ≡ error.Republished) × (repeats (numbers (published item batch).asked) ≡ true))
    ⊎ (((why ≡ error.Source item.root) × SubmitFaults source item batch old new)
    ⊎ ((why ≡ error.WaitsForNothing) × (works.state_is item.work ≡ state.Waiting) × ((published item batch).asked ≡ []))))

-- what an answer of a computation may fail by; the item stands as the computation left it
abbrev pub FollowFails : {W S C E : Type 0} → Works W C E → Ghosts S C → Result (Output W) E → Item W → Live W S → Live W S → RunError E → Type 0
FollowFails works source (Err failure) item old new why = why ≡ error.Planner item.root failure
FollowFails works source (Ok output.Done) item old new why = ⊥
FollowFails works source (Ok output.Continue) item old new why = ⊥
FollowFails works source (Ok (output.NeedsIO batch)) item old new why = (why ≡ error.OutOfMemory) ⊎ PublishFails works source batch item old new why
FollowFails works source (Ok (output.Child scope work)) item old new why = (why ≡ error.OutOfMemory) ⊎ ((why ≡ error.IdsExhausted) × (old.next_owner ≡ 2 ^ 64 - 1))
FollowFails works source (Ok (output.Batch array)) item old new why = (why ≡ error.OutOfMemory) ⊎ ((why ≡ error.EmptyBatch) × (array.rows ≡ 0))

-- a visit fails by what the item computed, or because it waits with nothing outstanding
abbrev pub VisitFails : {W S C E : Type 0} → Works W C E → Ghosts S C → State → ℕ → Item W → Live W S → Live W S → RunError E → Type 0
VisitFails works source state.Done at item old new why = ⊥
VisitFails works source state.Waiting at item old new why = (why ≡ error.WaitsForNothing) × (item.asked ≡ [])
VisitFails {W} {S} {C} {E} works source state.NeedsCompute at item old new why =
    (answer : Result (Output W) E) × (work : W) × Computes works item.work answer work × FollowFails works source answer (computed item work) (put at (computed item work) old) new why

-- What a visit that fails asks of the sources.

-- the source of an item's root was given the batch that the item published, and took or refused it
pub record IsGiven {W S C : Type 0} (source : Ghosts S C) (item : Item W) (batch : List IoRequest) (old new : List (Slot S)) : Type 0 where
  pub slot : Slot S
  pub there : slice_get old item.root.0 ≡ Some slot
  pub answer : Result (Unit {0}) IoError
  pub after : S
  pub submits : Submits source item.owner batch answer slot.source after
  pub now : new ≡ set old item.root.0 (record slot { source = after })

-- no source was asked but for a batch that the item published
abbrev pub FollowGives : {W S C E : Type 0} → Ghosts S C → Result (Output W) E → Item W → List (Slot S) → List (Slot S) → Type 0
FollowGives source (Err failure) item old new = new ≡ old
FollowGives source (Ok output.Done) item old new = new ≡ old
FollowGives source (Ok output.Continue) item old new = new ≡ old
FollowGives source (Ok (output.NeedsIO batch)) item old new = (new ≡ old) ⊎ IsGiven source item batch old new
FollowGives source (Ok (output.Child scope work)) item old new = new ≡ old
FollowGives source (Ok (output.Batch array)) item old new = new ≡ old

abbrev pub VisitGives : {W S C E : Type 0} → Works W C E → Ghosts S C → State → Item W → List (Slot S) → List (Slot S) → Type 0
VisitGives works source state.Done item old new = new ≡ old
VisitGives works source state.Waiting item old new = new ≡ old
VisitGives {W} {S} {C} {E} works source state.NeedsCompute item old new = (answer : Result (Output W) E) × (work : W) × Computes works item.work answer work × FollowGives source answer (computed item work) old new

-- a parked item was handed its last result, and still waits
pub record DeliversInVain {W C E : Type 0} (works : Works W C E) (root : RootId) (completion : Completion C) (old : List (Item W)) : Type 0 where
  pub at : ℕ
  pub item : Item W
  pub there : slice_get old at ≡ Some item
  pub of_root : item.root ≡ root
  pub work : W
  pub hands : Hands works completion item [] work
  pub waits : (handed works item [] work).ready ≡ false

-- no live item of the root expects the completion, or the one that does then waits with nothing outstanding
abbrev pub DeliverFails : {W C E : Type 0} → Works W C E → RootId → Completion C → List (Item W) → RunError E → Type 0
DeliverFails works root completion old why =
    ((why ≡ error.Protocol root completion.owner completion.request) × (list_any (expects root completion) old ≡ false))
    ⊎ ((why ≡ error.WaitsForNothing) × DeliversInVain works root completion old)

-- the source of a live root refused as it was polled
pub record PollRefused {W S C : Type 0} (source : Ghosts S C) (payload : Meanings C) (cause : IoError) (root : RootId) (old new : Live W S) : Type 0 where
  pub slot : Slot S
  pub there : slice_get old.slots root.0 ≡ Some slot
  pub live : slot.live ≡ true
  pub after : S
  pub polls : Polls source payload (Err cause) slot.source after
  pub now : new.slots ≡ set old.slots root.0 (record slot { source = after })

-- what the source of a live root gave could not be delivered
pub record PollMisses {W S C E : Type 0} (works : Works W C E) (source : Ghosts S C) (payload : Meanings C) (root : RootId) (old new : Live W S) (why : RunError E) : Type 0 where
  pub slot : Slot S
  pub there : slice_get old.slots root.0 ≡ Some slot
  pub live : slot.live ≡ true
  pub after : S
  pub completion : Completion C
  pub polls : Polls source payload (Ok (Some completion)) slot.source after
  pub fails : DeliverFails works root completion old.items why
  pub now : new.slots ≡ set old.slots root.0 (record slot { source = after })

-- asking a live root's source fails
abbrev pub AskFails : {W S C E : Type 0} → Works W C E → Ghosts S C → Meanings C → RootId → Live W S → Live W S → RunError E → Type 0
AskFails works source payload root old new why =
    ((why ≡ error.OutOfMemory) × PollRefused source payload cause.OutOfMemory root old new) ⊎ (((why ≡ error.Source root) × PollRefused source payload cause.Fault root old new) ⊎ PollMisses works source payload root old new why)

-- the source of a live root refused as it was waited for
pub record WaitRefused {W S C : Type 0} (source : Ghosts S C) (payload : Meanings C) (cause : IoError) (root : RootId) (old new : Live W S) : Type 0 where
  pub slot : Slot S
  pub there : slice_get old.slots root.0 ≡ Some slot
  pub live : slot.live ≡ true
  pub after : S
  pub waits : Waits source payload (Err cause) slot.source after
  pub now : new.slots ≡ set old.slots root.0 (record slot { source = after })

-- what the source of a live root gave could not be delivered
pub record WaitMisses {W S C E : Type 0} (works : Works W C E) (source : Ghosts S C) (payload : Meanings C) (root : RootId) (old new : Live W S) (why : RunError E) : Type 0 where
  pub slot : Slot S
  pub there : slice_get old.slots root.0 ≡ Some slot
  pub live : slot.live ≡ true
  pub after : S
  pub completion : Completion C
  pub waits : Waits source payload (Ok completion) slot.source after
  pub fails : DeliverFails works root completion old.items why
  pub now : new.slots ≡ set old.slots root.0 (record slot { source = after })

-- waiting for a live root's source fails
abbrev pub WaitFails : {W S C E : Type 0} → Works W C E → Ghosts S C → Meanings C → RootId → Live W S → Live W S → RunError E → Type 0
WaitFails works source payload root old new why =
    ((why ≡ error.OutOfMemory) × WaitRefused source payload cause.OutOfMemory root old new) ⊎ (((why ≡ error.Source root) × WaitRefused source payload cause.Fault root old new) ⊎ WaitMisses works source payload root old new why)
