-- Calls that go on, turn by turn.
use Rattle.std.proofs.Common.{◌≡◌, ◌≢◌, ℕ, suc, ◌+◌, ◌<◌, ◌≤◌, List, [], ◌∷◌, refl, ◌∙◌, ap, Bool, true, false, Option, None, Some, arith, length}
use Rattle.std.specs.Prelude.{slice_get}
use Rattle.std.specs.Option.{option_map}
use Rattle.std.specs.List.{AllByRecursion}
use Rattle.vortex_io.specs.declared.payload.Payload.{Ghosts as Meanings}
use Rattle.vortex_io.specs.declared.source.IoSource.{Ghosts}
use Rattle.vortex_scan.specs.declared.errors.Progress.{Progress}
use Rattle.vortex_scan.specs.declared.errors.Progress.TheVariants as progress
use Rattle.vortex_scan.specs.declared.errors.Visited.{Visited}
use Rattle.vortex_scan.specs.declared.errors.Visited.TheVariants as visited
use Rattle.vortex_scan.specs.declared.item.Item.{Item}
use Rattle.vortex_scan.specs.declared.item.Slot.{Slot}
use Rattle.vortex_scan.specs.declared.worker.Worker.{Ghosts as Works}
use Rattle.vortex_scan.specs.Asking.{IsAsking}
use Rattle.vortex_scan.specs.Fits.{ItemFits, LiveFits, visits_since}
use Rattle.vortex_scan.specs.Going.{Advances, AsksIfDue, Ends, Turns, TurnsTo}
use Rattle.vortex_scan.specs.Visits.{came_to}
use Rattle.vortex_scan.specs.RunState.{Live, NothingReady, RunState}
use Rattle.vortex_scan.proofs.Asked.{asks_all_fits}
use Rattle.vortex_scan.proofs.Visiting.{visit_fits}

module _ {W S C E : Type 0} (works : Works W C E) (source : Ghosts S C) (payload : Meanings C) where
  pub asks_due_fits : (asked : Bool) (old new : RunState W S) → LiveFits source old.live → AsksIfDue works source payload asked old new → LiveFits source new.live
  asks_due_fits true old new fits a = asks_all_fits works source payload (length old.live.slots) old.live new.live fits a.1.asks
  asks_due_fits false old new fits a = rw a.0 fits

  pub turn_fits : (old new : RunState W S) (came : Visited) → LiveFits source old.live → Turns works source payload old new came → LiveFits source new.live
  turn_fits old new came fits t =
      let v = t.visits in
      visit_fits source works (works.state_is v.item.work) v.at v.item t.between.live new.live came (asks_due_fits t.asked old t.between fits t.asks) v.least.there v.visits

  pub ends_fits : (old new : RunState W S) (answer : Progress) → LiveFits source old.live → Ends works source payload old new answer → LiveFits source new.live
  ends_fits old new (progress.Batch batch) fits t = turn_fits old new (visited.Batch batch) fits t
  ends_fits old new (progress.RootDone root) fits t = turn_fits old new (visited.RootDone root) fits t
  ends_fits old new progress.Waiting fits t = asks_due_fits true old new fits t.0
  ends_fits old new progress.Idle fits t = asks_due_fits true old new fits t.0

  due_counts : (asked : Bool) (old new : RunState W S) → AsksIfDue works source payload asked old new → (new.visits ≡ old.visits) × (new.limit ≡ old.limit)
  due_counts true old new a = (ap (λ (r : RunState W S). r.visits) a.1.now, ap (λ (r : RunState W S). r.limit) a.1.now)
  due_counts false old new a = (ap (λ (r : RunState W S). r.visits) a.0, ap (λ (r : RunState W S). r.limit) a.0)

  pub turn_counts : (old new : RunState W S) (came : Visited) → Turns works source payload old new came → (old.visits < old.limit) × (new.visits ≡ old.visits + 1) × (new.limit ≡ old.limit)
  turn_counts old new came t =
      let d = due_counts t.asked old t.between t.asks in
      let v = t.visits in
      (rw (← d.0, ← d.1) v.room, ap (λ (r : RunState W S). r.visits) v.now ∙ ap (λ n. n + 1) d.0, ap (λ (r : RunState W S). r.limit) v.now ∙ d.1)

  -- where no item is ready, all were asked
  pub must_ask : (asked : Bool) (old new : RunState W S) → AsksIfDue works source payload asked old new
      → ((j : ℕ) (other : Item W) → slice_get new.live.items j ≡ Some other → other.ready ≡ false) → AsksIfDue works source payload true old new
  must_ask true old new a none = a
  must_ask false old new a none =
      let ready = a.2.2 in
      let there : slice_get new.live.items a.2.0 ≡ Some a.2.1 = ap (λ (r : RunState W S). slice_get r.live.items a.2.0) a.0 ∙ ready.there in
      absurd (let no_one = none a.2.0 a.2.1 there in let some = ready.ready in cc)

  rests_by : (items : List (Item W)) (old new : RunState W S) (answer : Progress) → new.live.items ≡ items → AsksIfDue works source payload true old new → NothingReady new.live.items
      → (new.live.items ≢ [] → answer ≡ progress.Waiting) → (new.live.items ≡ [] → answer ≡ progress.Idle) → Ends works source payload old new answer
  rests_by [] old new answer is asks idle waits ends = rw (ends is) (asks, is)
  rests_by (item ∷ items) old new answer is asks idle waits ends = let some : new.live.items ≢ [] = λ e. cc in rw (waits some) (asks, idle, some)

  -- the answer of a call that ends where no item is ready
  pub rests : (old new : RunState W S) (answer : Progress) → AsksIfDue works source payload true old new → NothingReady new.live.items
      → (new.live.items ≢ [] → answer ≡ progress.Waiting) → (new.live.items ≡ [] → answer ≡ progress.Idle) → Ends works source payload old new answer
  rests old new answer asks idle waits ends = rests_by new.live.items old new answer refl asks idle waits ends

  -- what a visit comes to is what its turn comes to
  pub turns_came : (old new : RunState W S) (came : Visited) → Turns works source payload old new came → TurnsTo works source payload old new (came_to came)
  turns_came old new visited.Went t = t
  turns_came old new (visited.Batch batch) t = t
  turns_came old new (visited.RootDone root) t = t

  -- a call that answers that it waits leaves no item ready, and one live
  pub waiting_of : (old new : RunState W S) (answer : Progress) → Advances works source payload old new answer → answer ≡ progress.Waiting
      → NothingReady new.live.items × (new.live.items ≢ [])
  waiting_of old new (progress.Batch batch) a e = absurd (cc)
  waiting_of old new (progress.RootDone root) a e = absurd (cc)
  waiting_of old new progress.Waiting a e = (a.ends.1, a.ends.2)
  waiting_of old new progress.Idle a e = absurd (cc)

first_asks : {W S C : Type 0} (source : Ghosts S C) (slots : List (Slot S)) (owners : ℕ) (items : List (Item W)) → AllByRecursion (ItemFits source slots owners) items → NothingReady items → items ≢ [] → (root : ℕ) × IsAsking items root
first_asks source slots owners [] each idle some = absurd (some refl)
first_asks source slots owners (item ∷ items) each idle some = (item.root.0, (0, item, refl, refl, each.0.parked idle.0))

-- where nothing is ready and an item is live, that item's root has something outstanding
pub waiting_asks : {W S C : Type 0} (source : Ghosts S C) (live : Live W S) → LiveFits source live → NothingReady live.items → live.items ≢ [] → (root : ℕ) × IsAsking live.items root
waiting_asks {W} {S} source live fits idle some = first_asks source live.slots live.next_owner live.items fits.each idle some

-- the count of visits after one more
pub since_more : (since : Option ℕ) → visits_since since < 64 → visits_since (option_map (λ visits. visits + 1) since) ≤ 64
since_more None h = omega (arith, h)
since_more (Some visits) h = omega (arith, h)

-- no item is ready
pub none_ready : {W : Type 0} (items : List (Item W)) → ((j : ℕ) (other : Item W) → slice_get items j ≡ Some other → other.ready ≡ false) → NothingReady items
none_ready [] f = tt
none_ready (x ∷ xs) f = (f 0 x refl, none_ready xs (λ j other at. f (suc j) other at))
