-- A call that goes on answers that nothing is live exactly where nothing is as it begins.
use Rattle.std.proofs.Common.{◌≡◌, ◌≢◌, ℕ, List, [], ◌∷◌, refl, sym, ◌∙◌, ap, true, false, Some, Result, Ok, ⊎_elim, ◌↔◌}
use Rattle.std.specs.Prelude.{slice_get}
use Rattle.vortex_io.specs.declared.payload.Payload.{Ghosts as Meanings}
use Rattle.vortex_io.specs.declared.source.IoSource.{Ghosts}
use Rattle.vortex_scan.specs.declared.errors.Progress.{Progress}
use Rattle.vortex_scan.specs.declared.errors.Progress.TheVariants as progress
use Rattle.vortex_scan.specs.declared.errors.RunError.{RunError}
use Rattle.vortex_scan.specs.declared.errors.Visited.{Visited}
use Rattle.vortex_scan.specs.declared.errors.Visited.TheVariants as visited
use Rattle.vortex_scan.specs.declared.item.Item.{Item}
use Rattle.vortex_scan_types.specs.declared.place.RootId.{RootId}
use Rattle.vortex_scan.specs.declared.worker.Worker.{Ghosts as Works}
use Rattle.vortex_scan.specs.Asking.{is_live, root_at}
use Rattle.vortex_scan.specs.Fits.{ArePeopled, LiveFits}
use Rattle.vortex_scan.specs.Going.{AdvanceFails, Advances, AskingFailsThen, Ends, TurnFailsThen, Turns, VisitLeastFails}
use Rattle.vortex_scan.specs.RunState.{Live, RunState, has_root}
use Rattle.vortex_scan.proofs.Rooted.{SameRoots, asks_all_same, asks_due_same, goes_same, has_own, is_live_at, peopled_same}

none_by : {W : Type 0} (items other : List (Item W)) → ((root : RootId) → has_root root items ≡ has_root root other) → other ≡ [] → items ≡ []
none_by [] other same none = refl
none_by (x ∷ xs) other same none =
    let here : has_root x.root (x ∷ xs) ≡ true = has_own (x ∷ xs) 0 x refl in
    let there : has_root x.root (x ∷ xs) ≡ false = same x.root ∙ ap (has_root x.root) none in
    absurd (cc)

module _ {W S : Type 0} where
  still_none : (old new : Live W S) → SameRoots old new → old.items ≡ [] → new.items ≡ []
  still_none old new s none = none_by new.items old.items s.1 none

  was_none : (old new : Live W S) → SameRoots old new → new.items ≡ [] → old.items ≡ []
  was_none old new s none = none_by old.items new.items (λ root. sym (s.1 root)) none

  -- without items no root is live
  none_live : (live : Live W S) (root : ℕ) → ArePeopled live → live.items ≡ [] → is_live (slice_get live.slots root) ≡ true → ⊥
  none_live live root p none l =
      let has : has_root (root_at root) live.items ≡ true = p (root_at root) (is_live_at live.slots root l) in
      let not_so : has_root (root_at root) live.items ≡ false = ap (has_root (root_at root)) none in
      cc

none_at : {W : Type 0} (items : List (Item W)) (at : ℕ) (item : Item W) → items ≡ [] → slice_get items at ≡ Some item → ⊥
none_at {W} items at item none there = let h = ap (λ (xs : List (Item W)). slice_get xs at) none in cc

module _ {W S C E : Type 0} (works : Works W C E) (source : Ghosts S C) (payload : Meanings C) where
  no_turn : (old new : RunState W S) (came : Visited) → Turns works source payload old new came → old.live.items ≡ [] → ⊥
  no_turn old new came t none =
      let none' = still_none old.live t.between.live (asks_due_same works source payload t.asked old t.between t.asks) none in
      none_at t.between.live.items t.visits.at t.visits.item none' t.visits.least.there

  ends_idle : (old new : RunState W S) (answer : Progress) → Ends works source payload old new answer → old.live.items ≡ [] → answer ≡ progress.Idle
  ends_idle old new (progress.Batch batch) t none = absurd (no_turn old new (visited.Batch batch) t none)
  ends_idle old new (progress.RootDone root) t none = absurd (no_turn old new (visited.RootDone root) t none)
  ends_idle old new progress.Waiting t none = absurd (t.2 (still_none old.live new.live (asks_due_same works source payload true old new t.0) none))
  ends_idle old new progress.Idle t none = refl

  idle_ends : (old new : RunState W S) (answer : Progress) → Ends works source payload old new answer → answer ≡ progress.Idle → old.live.items ≡ []
  idle_ends old new (progress.Batch batch) t e = absurd (cc)
  idle_ends old new (progress.RootDone root) t e = absurd (cc)
  idle_ends old new progress.Waiting t e = absurd (cc)
  idle_ends old new progress.Idle t e = was_none old.live new.live (asks_due_same works source payload true old new t.0) t.1

  -- an answer is that nothing is live exactly where nothing was
  pub idle_exactly : (old new : RunState W S) (answer : Progress) → LiveFits source old.live → Advances works source payload old new answer → (answer ≡ progress.Idle) ↔ (old.live.items ≡ [])
  idle_exactly old new answer fits a =
      let before = (goes_same works source payload a.turns old a.between fits a.goes).0 in (
        λ e. was_none old.live a.between.live before (idle_ends a.between new answer a.ends e),
        λ none. ends_idle a.between new answer a.ends (still_none old.live a.between.live before none),
      )

  visiting_needs : (old new : RunState W S) (why : RunError E) → TurnFailsThen works source payload old new why → old.live.items ≡ [] → ⊥
  visiting_needs old new why t none =
      let none' = still_none old.live t.between.live (asks_due_same works source payload t.asked old t.between t.asks) none in
      ⊎_elim (λ l. none_at t.between.live.items l.1.at l.1.item none' l.1.least.there) (λ (v : VisitLeastFails works source t.between new why). none_at t.between.live.items v.at v.item none' v.least.there) t.fails

  asking_needs : (old new : RunState W S) (why : RunError E) → AskingFailsThen works source payload old new why → ArePeopled old.live → old.live.items ≡ [] → ⊥
  asking_needs old new why t p none =
      let f = t.fails in
      let same = asks_all_same works source payload f.root old.live f.between f.before in
      none_live f.between f.root (peopled_same old.live f.between same p) (still_none old.live f.between same none) f.live

  -- where nothing is live, nothing fails
  pub fails_with_items : (old new : RunState W S) (why : RunError E) → LiveFits source old.live → ArePeopled old.live → AdvanceFails works source payload old new why → old.live.items ≢ []
  fails_with_items old new why fits p a none =
      let before = (goes_same works source payload a.turns old a.between fits a.goes).0 in
      let none' = still_none old.live a.between.live before none in
      ⊎_elim (λ (t : AskingFailsThen works source payload a.between new why). asking_needs a.between new why t (peopled_same old.live a.between.live before p) none')
      (λ (t : TurnFailsThen works source payload a.between new why). visiting_needs a.between new why t none') a.fails

-- the same of what a call answers
pub ok_is : {T E : Type 0} (answer other : T) (result : Result T E) → result ≡ Ok answer → result ≡ Ok other → answer ≡ other
ok_is answer other result e f = cc
