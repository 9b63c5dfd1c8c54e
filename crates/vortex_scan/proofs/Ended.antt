-- A root that has ended stays so, and nothing is told of it.
use Rattle.std.proofs.Common.{◌≡◌, ◌≢◌, ℕ, zero, suc, ◌+◌, ◌<◌, List, [], ◌∷◌, ◌++◌, refl, sym, ◌∙◌, ap, Bool, true, false, Option, None, Some, arith, length, length-append, inl, inr, ◌⊎◌, ⊎_elim}
use Rattle.std.specs.Prelude.{slice_get}
use Rattle.std.specs.List.{AllByRecursion}
use Rattle.std.proofs.Math.ListN.{set}
use Rattle.std.proofs.lemmas.List.{length-map, length-set, map-append}
use Rattle.vortex_io.specs.declared.payload.Payload.{Ghosts as Meanings}
use Rattle.vortex_io.specs.declared.source.IoSource.{Ghosts}
use Rattle.vortex_scan_types.specs.declared.place.RootId.{RootId}
use Rattle.vortex_scan.specs.declared.errors.Progress.{Progress}
use Rattle.vortex_scan.specs.declared.errors.Progress.TheVariants as progress
use Rattle.vortex_scan.specs.declared.errors.Visited.{Visited}
use Rattle.vortex_scan.specs.declared.item.Slot.{Slot}
use Rattle.vortex_scan.specs.declared.worker.Worker.{Ghosts as Works}
use Rattle.vortex_scan.specs.Ended.{Admits, AreCalls, CancelsOne, EndedRootsAreSilent, HasEnded, IsCall, IsKept, IsOf, ToldRootsHaveEnded, WentOn}
use Rattle.vortex_scan.specs.Going.{Advances, AsksIfDue, Ends, GoesOn, Turns}
use Rattle.vortex_scan.specs.RunState.{Live, RunState, liveness}
use Rattle.vortex_scan.specs.Steps.{CancelsLive}
use Rattle.vortex_scan.specs.Whole.{TellsRoots}
use Rattle.vortex_scan.proofs.Rooted.{live_at, live_put}

-- Lists.

some_within : {A : Type 0} (xs : List A) (i : ℕ) (x : A) → slice_get xs i ≡ Some x → i < length xs
some_within [] i x there = absurd (cc)
some_within (y ∷ ys) zero x there = omega arith
some_within (y ∷ ys) (suc i) x there = let ih = some_within ys i x there in omega (arith, ih)

before_more : {A : Type 0} (xs ys : List A) (i : ℕ) → i < length xs → slice_get (xs ++ ys) i ≡ slice_get xs i
before_more [] ys i h = absurd (omega (arith, h))
before_more (x ∷ xs) ys zero h = refl
before_more (x ∷ xs) ys (suc i) h = before_more xs ys i (omega (arith, h))

-- where a truth is set back, it does not stand
set_back : (bs : List Bool) (i : ℕ) → slice_get (set bs i false) i ≢ Some true
set_back [] zero = λ e. absurd (cc)
set_back [] (suc i) = λ e. absurd (cc)
set_back (b ∷ bs) zero = λ e. absurd (cc)
set_back (b ∷ bs) (suc i) = set_back bs i

-- and it comes to stand nowhere else
set_back_else : (bs : List Bool) (i j : ℕ) → slice_get bs j ≢ Some true → slice_get (set bs i false) j ≢ Some true
set_back_else [] zero j away = away
set_back_else [] (suc i) j away = away
set_back_else (b ∷ bs) zero zero away = λ e. absurd (cc)
set_back_else (b ∷ bs) zero (suc j) away = away
set_back_else (b ∷ bs) (suc i) zero away = away
set_back_else (b ∷ bs) (suc i) (suc j) away = set_back_else bs i j away

live_long : {S : Type 0} (slots : List (Slot S)) → length (liveness slots) ≡ length slots
live_long {S} slots = length-map slots (λ (slot : Slot S). slot.live)

live_none : {S : Type 0} (slots : List (Slot S)) (i : ℕ) → slice_get slots i ≡ None → slice_get (liveness slots) i ≢ Some true
live_none [] zero none = λ e. absurd (cc)
live_none [] (suc i) none = λ e. absurd (cc)
live_none (s ∷ ss) zero none = absurd (cc)
live_none (s ∷ ss) (suc i) none = live_none ss i none

-- Truths that stay, but for one that is set back.
abbrev SetsBack : List Bool → List Bool → Type 0
SetsBack old new = (new ≡ old) ⊎ ((i : ℕ) × (new ≡ set old i false))

back_long : (old new : List Bool) → SetsBack old new → length new ≡ length old
back_long old new s = ⊎_elim (λ e. ap length e) (λ p. ap length p.1 ∙ length-set old p.0 false) s

back_else : (old new : List Bool) (j : ℕ) → SetsBack old new → slice_get old j ≢ Some true → slice_get new j ≢ Some true
back_else old new j s away = ⊎_elim (λ e. rw e away) (λ p. rw p.1 (set_back_else old p.0 j away)) s

none_there : (bs : List Bool) (j : ℕ) → bs ≡ [] → slice_get bs j ≢ Some true
none_there [] zero none = λ e. absurd (cc)
none_there [] (suc j) none = λ e. absurd (cc)
none_there (b ∷ bs) j none = absurd (cc)

-- a run has given as many numbers as it has roots, until it fails
abbrev IsCounted : {W S : Type 0} → RunState W S → Type 0
IsCounted run = run.failed ≡ false → length (liveness run.live.slots) ≡ run.next_root

-- what a call leaves
abbrev KeepsNumbers : {W S : Type 0} → RunState W S → RunState W S → Type 0
KeepsNumbers old new = (new.next_root ≡ old.next_root) × (new.failed ≡ old.failed)

module _ {W S C E : Type 0} (works : Works W C E) (source : Ghosts S C) (payload : Meanings C) where
  -- Going on gives no number, and does not fail the run.

  asks_numbers : (asked : Bool) (old new : RunState W S) → AsksIfDue works source payload asked old new → KeepsNumbers old new
  asks_numbers true old new a = (ap (λ (run : RunState W S). run.next_root) a.1.now, ap (λ (run : RunState W S). run.failed) a.1.now)
  asks_numbers false old new a = (ap (λ (run : RunState W S). run.next_root) a.0, ap (λ (run : RunState W S). run.failed) a.0)

  turn_numbers : (old new : RunState W S) (came : Visited) → Turns works source payload old new came → KeepsNumbers old new
  turn_numbers old new came t =
      let a = asks_numbers t.asked old t.between t.asks in
      (ap (λ (run : RunState W S). run.next_root) t.visits.now ∙ a.0, ap (λ (run : RunState W S). run.failed) t.visits.now ∙ a.1)

  goes_numbers : (turns : ℕ) (old new : RunState W S) → GoesOn works source payload turns old new → KeepsNumbers old new
  goes_numbers zero old new g = (ap (λ (run : RunState W S). run.next_root) g, ap (λ (run : RunState W S). run.failed) g)
  goes_numbers (suc turns) old new g =
      let before = goes_numbers turns old g.0 g.1 in
      let last = turn_numbers g.0 new _ g.2 in
      (last.0 ∙ before.0, last.1 ∙ before.1)

  ends_numbers : (old new : RunState W S) (answer : Progress) → Ends works source payload old new answer → KeepsNumbers old new
  ends_numbers old new (progress.Batch batch) e = turn_numbers old new _ e
  ends_numbers old new (progress.RootDone root) e = turn_numbers old new _ e
  ends_numbers old new progress.Waiting e = asks_numbers true old new e.0
  ends_numbers old new progress.Idle e = asks_numbers true old new e.0

  advances_numbers : (old new : RunState W S) (answer : Progress) → Advances works source payload old new answer → KeepsNumbers old new
  advances_numbers old new answer a =
      let before = goes_numbers a.turns old a.between a.goes in
      let last = ends_numbers a.between new answer a.ends in
      (last.0 ∙ before.0, last.1 ∙ before.1)

  -- What a call does to the roots.

  cancel_back : (root : RootId) (old new : RunState W S) (slot : Option (Slot S)) → CancelsLive source root slot old.live new.live → SetsBack (liveness old.live.slots) (liveness new.live.slots)
  cancel_back root old new None c = inl (ap (λ (live : Live W S). liveness live.slots) c)
  cancel_back root old new (Some slot) c =
      elim slot.live as (λ b. slot.live ≡ b → SetsBack (liveness old.live.slots) (liveness new.live.slots)) [
        | true ↦ λ e. let did = c.0 e in inr (root.0, ap (λ (live : Live W S). liveness live.slots) did.now ∙ live_put old.live.slots root.0 _)
        | false ↦ λ e. inl (ap (λ (live : Live W S). liveness live.slots) (c.1 e))
      ] refl

  cancel_ends : (root : RootId) (old new : RunState W S) (slot : Option (Slot S)) → slice_get old.live.slots root.0 ≡ slot → CancelsLive source root slot old.live new.live → slice_get (liveness new.live.slots) root.0 ≢ Some true
  cancel_ends root old new None at c = rw c (live_none old.live.slots root.0 at)
  cancel_ends root old new (Some slot) at c =
      elim slot.live as (λ b. slot.live ≡ b → slice_get (liveness new.live.slots) root.0 ≢ Some true) [
        | true ↦ λ e.
            let did = c.0 e in
            let back : liveness new.live.slots ≡ set (liveness old.live.slots) root.0 false = ap (λ (live : Live W S). liveness live.slots) did.now ∙ live_put old.live.slots root.0 _ in
            rw back (set_back (liveness old.live.slots) root.0)
        | false ↦ λ e. let now = c.1 e in let was = live_at old.live.slots root.0 slot at in λ stands. absurd (let same : slice_get (liveness old.live.slots) root.0 ≡ Some true = rw now at stands in cc)
      ] refl

  tells_back : (answer : Progress) (old new : Live W S) → TellsRoots answer old new → SetsBack (liveness old.slots) (liveness new.slots)
  tells_back (progress.Batch batch) old new t = inl t.1
  tells_back (progress.RootDone root) old new t = inr (root.0, t.2)
  tells_back progress.Waiting old new t = inl t
  tells_back progress.Idle old new t = inl t

  -- what is told is told of a live root
  tells_live : (answer : Progress) (old new : Live W S) (root : RootId) → TellsRoots answer old new → IsOf root (Some answer) → slice_get (liveness old.slots) root.0 ≡ Some true
  tells_live (progress.Batch batch) old new root t e = rw e at t.0
  tells_live (progress.RootDone done) old new root t e = rw e at t.0
  tells_live progress.Waiting old new root t e = absurd e
  tells_live progress.Idle old new root t e = absurd e

  counted_back : (old new : RunState W S) → SetsBack (liveness old.live.slots) (liveness new.live.slots) → KeepsNumbers old new → IsCounted old → IsCounted new
  counted_back old new s n counted = λ well. back_long _ _ s ∙ counted (let was : old.failed ≡ false = sym n.1 ∙ well in was) ∙ sym n.0

  ended_back : (old new : RunState W S) (root : RootId) → SetsBack (liveness old.live.slots) (liveness new.live.slots) → KeepsNumbers old new → HasEnded old root → HasEnded new root
  ended_back old new root s n ended = (rw n.0 ended.0, back_else _ _ root.0 s ended.1)

  numbers_of : (old new : RunState W S) → new ≡ record old { live = new.live } → KeepsNumbers old new
  numbers_of old new e = (ap (λ (run : RunState W S). run.next_root) e, ap (λ (run : RunState W S). run.failed) e)

  admit_live : (old new : RunState W S) (a : Admits old new) → liveness new.live.slots ≡ liveness old.live.slots ++ true ∷ []
  admit_live old new a = ap (λ (run : RunState W S). liveness run.live.slots) a.now ∙ map-append (λ (slot : Slot S). slot.live) old.live.slots (record { source = a.io; live = true } ∷ [])

  admit_counted : (old new : RunState W S) → Admits old new → IsCounted old → IsCounted new
  admit_counted old new a counted = λ well.
      ap length (admit_live old new a) ∙ length-append (liveness old.live.slots) (true ∷ []) ∙ ap (λ n. n + 1) (counted a.well) ∙ sym (ap (λ (run : RunState W S). run.next_root) a.now)

  admit_ended : (old new : RunState W S) (root : RootId) → Admits old new → IsCounted old → HasEnded old root → HasEnded new root
  admit_ended old new root a counted ended =
      let next : new.next_root ≡ old.next_root + 1 = ap (λ (run : RunState W S). run.next_root) a.now in
      let long = counted a.well in
      let stays : slice_get (liveness new.live.slots) root.0 ≡ slice_get (liveness old.live.slots) root.0 =
      ap (λ bs. slice_get bs root.0) (admit_live old new a) ∙ before_more (liveness old.live.slots) (true ∷ []) root.0 (omega (arith, long, ended.0)) in
      (omega (arith, next, ended.0), rw stays ended.1)

  call_counted : (told : Option Progress) (old new : RunState W S) → IsCall works source payload told old new → IsCounted old → IsCounted new
  call_counted None old new c counted =
      ⊎_elim (λ a. admit_counted old new a counted)
      (⊎_elim (λ d. counted_back old new (cancel_back d.0 old new _ d.1.step) (numbers_of old new d.1.now) counted)
      (⊎_elim (λ h. counted_back old new (inl h.roots) (numbers_of old new h.now) counted) (λ t. λ well. absurd (let failed = ap (λ (run : RunState W S). run.failed) t in cc)))) c
  call_counted (Some answer) old new c counted = counted_back old new (tells_back answer old.live new.live c.roots) (advances_numbers old new answer c.goes) counted

  call_silent : (told : Option Progress) (old new : RunState W S) (root : RootId) → IsCall works source payload told old new → HasEnded old root → ¬ IsOf root told
  call_silent None old new root c ended = λ none. none
  call_silent (Some answer) old new root c ended = λ of_root. ended.1 (tells_live answer old.live new.live root c.roots of_root)

  call_ended : (told : Option Progress) (old new : RunState W S) (root : RootId) → IsCall works source payload told old new → IsCounted old → HasEnded old root → HasEnded new root
  call_ended None old new root c counted ended =
      ⊎_elim (λ a. admit_ended old new root a counted ended)
      (⊎_elim (λ d. ended_back old new root (cancel_back d.0 old new _ d.1.step) (numbers_of old new d.1.now) ended)
      (⊎_elim (λ h. ended_back old new root (inl h.roots) (numbers_of old new h.now) ended)
      (λ t.
      let next : new.next_root ≡ old.next_root = ap (λ (run : RunState W S). run.next_root) t in
      let gone : liveness new.live.slots ≡ [] = ap (λ (run : RunState W S). liveness run.live.slots) t in
      (rw next ended.0, none_there _ root.0 gone)))) c
  call_ended (Some answer) old new root c counted ended = ended_back old new root (tells_back answer old.live new.live c.roots) (advances_numbers old new answer c.goes) ended

  kept_counted : (run : RunState W S) → IsKept source run → IsCounted run
  kept_counted run kept = λ well. live_long run.live.slots ∙ (kept well).roots

  calls_silent : (told : List (Option Progress)) (old new : RunState W S) (root : RootId) → IsCounted old → HasEnded old root → AreCalls works source payload told old new
      → AllByRecursion (λ answer. ¬ IsOf root answer) told × HasEnded new root
  calls_silent [] old new root counted ended c = (tt, rw c ended)
  calls_silent (told ∷ rest) old new root counted ended c =
      let then = calls_silent rest c.0 new root (call_counted told old c.0 c.1 counted) (call_ended told old c.0 root c.1 counted ended) c.2 in
      ((call_silent told old c.0 root c.1 ended, then.0), then.1)

  told_ends : (old new : RunState W S) (root : RootId) → IsCounted old → WentOn works source payload (progress.RootDone root) old new → HasEnded new root
  told_ends old new root counted w =
      let long = counted w.well in
      let within = some_within (liveness old.live.slots) root.0 true w.roots.0 in
      let next = (advances_numbers old new (progress.RootDone root) w.goes).0 in
      (omega (arith, long, within, next), rw w.roots.2 (set_back (liveness old.live.slots) root.0))

  cancel_has_ended : (old new : RunState W S) (root : RootId) → root.0 < old.next_root → CancelsOne source root old new → HasEnded new root
  cancel_has_ended old new root given d =
      let next = (numbers_of old new d.now).0 in
      (rw next given, cancel_ends root old new _ refl d.step)

  -- a root whose end is told has ended, and so has one that is cancelled
  pub told_have_ended : ToldRootsHaveEnded works source payload
  told_have_ended old new root kept = (λ w. told_ends old new root (kept_counted old kept) w, λ given d. cancel_has_ended old new root given d)

  -- and nothing is told of it any more
  pub ended_are_silent : EndedRootsAreSilent works source payload
  ended_are_silent old new told root kept ended c = calls_silent told old new root (kept_counted old kept) ended c
