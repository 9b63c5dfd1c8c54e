-- What the calls of a run answer.
use Rattle.std.specs.Prelude.{◌≡◌, ◌≢◌, ◌⊎◌, true, false, Result, Ok, Err}
use Rattle.vortex_scan.specs.declared.errors.AdmitError.{AdmitError}
use Rattle.vortex_scan.specs.declared.errors.Refused.{Refused}
use Rattle.vortex_scan.specs.declared.errors.RunError.{RunError}
use Rattle.vortex_scan.specs.declared.errors.RunError.TheVariants as error
use Rattle.vortex_io.specs.declared.payload.Payload.{Ghosts as Meanings}
use Rattle.vortex_io.specs.declared.source.IoSource.{Ghosts}
use Rattle.vortex_scan.specs.declared.worker.Worker.{Ghosts as Works}
use Rattle.vortex_scan.specs.Going.{AdvanceFails}
use Rattle.vortex_scan.specs.RunState.{RunState, live_count}

-- a root was refused for this reason
abbrev pub IsRefusedFor : {T P S : Type 0} → AdmitError → Result T (Refused P S) → Type 0
IsRefusedFor why (Ok answer) = ⊥
IsRefusedFor why (Err refused) = refused.error ≡ why

-- a run that had failed refuses and stays; any other refusal has its cause, and fails the run
abbrev pub Refuses : {W S E : Type 0} → RunState W S → RunState W S → RunError E → Type 0 → Type 0
Refuses old new why cause = ((old.failed ≡ true) × (why ≡ error.RunFailed) × (new ≡ old)) ⊎ ((old.failed ≡ false) × (new.failed ≡ true) × cause)

-- the same for asking once, which is refused without failing the run where no root is live
abbrev pub PollRefuses : {W S E : Type 0} → RunState W S → RunState W S → RunError E → Type 0 → Type 0
PollRefuses old new why cause =
    ((old.failed ≡ false) × (live_count old.live.slots ≡ 0) × (why ≡ error.NoLiveRoot) × (new ≡ old)) ⊎ Refuses old new why ((live_count old.live.slots ≢ 0) × cause)

-- and for going on: what the last step did is said of the run as it was left, but for that it has failed
abbrev pub AdvanceRefuses : {W S C E : Type 0} → Works W C E → Ghosts S C → Meanings C → RunState W S → RunState W S → RunError E → Type 0
AdvanceRefuses works source payload old new why = Refuses old new why (AdvanceFails works source payload old (record new { failed = false }) why)
