-- Which roots are live, and have items, through each step.
use Rattle.std.proofs.Common.{◌≡◌, ◌≢◌, ℕ, zero, suc, ◌+◌, List, [], ◌∷◌, ◌++◌, refl, sym, ◌∙◌, ap, Bool, true, false, cond, not, ◌&&◌, ◌||◌, Option, None, Some, arith, length, filter, inl, inr, ◌⊎◌, ⊎_elim}
use Rattle.std.specs.Prelude.{slice_get, eqb}
use Rattle.std.specs.List.{list_any, remove}
use Rattle.std.proofs.Math.ListN.{set}
use Rattle.std.proofs.lemmas.Bool.{eqb-true}
use Rattle.std.proofs.lemmas.Bool.Decides.{nat_tests}
use Rattle.std.proofs.lemmas.List.{map-append}
use Rattle.std.proofs.lemmas.List.Folds.{list_any-append}
use Rattle.vortex_io.specs.declared.payload.Payload.{Ghosts as Meanings}
use Rattle.vortex_io.specs.declared.request.Completion.{Completion}
use Rattle.vortex_io.specs.declared.request.IoRequest.{IoRequest}
use Rattle.vortex_io.specs.declared.source.IoSource.{Ghosts}
use Rattle.vortex_scan.specs.declared.errors.Progress.{Progress}
use Rattle.vortex_scan.specs.declared.errors.Progress.TheVariants as progress
use Rattle.vortex_scan.specs.declared.errors.Visited.{Visited}
use Rattle.vortex_scan.specs.declared.errors.Visited.TheVariants as visited
use Rattle.vortex_scan.specs.declared.item.Item.{Item}
use Rattle.vortex_scan.specs.declared.item.Slot.{Slot}
use Rattle.vortex_scan_types.specs.declared.place.RootId.{RootId}
use Rattle.vortex_scan.specs.declared.state.Output.{Output}
use Rattle.vortex_scan.specs.declared.state.Output.TheVariants as output
use Rattle.vortex_scan.specs.declared.state.State.{State}
use Rattle.vortex_scan.specs.declared.state.State.TheVariants as state
use Rattle.vortex_scan.specs.declared.worker.Worker.{Ghosts as Works}
use Rattle.vortex_scan.specs.Asking.{AsksLive, AsksOnce, is_live, root_at}
use Rattle.vortex_scan.specs.Fits.{ArePeopled, ItemFits, LiveFits}
use Rattle.vortex_scan.specs.Going.{Advances, AsksAll, AsksIfDue, AsksOut, Ends, Gives, GoesOn, Turns}
use Rattle.vortex_scan.specs.RunState.{Live, RunState, has_root, is_of_root, live_with, liveness, put}
use Rattle.vortex_scan.specs.Steps.{Asks, Cancels, CancelsLive, Delivers, DeliversAny, Follows, Publishes, Retires, Settles, Visits, WaitsFor, child_of, computed, handed, published}
use Rattle.vortex_scan.specs.Whole.{TellsRoots}
use Rattle.vortex_scan.proofs.Fitting.{any_before, any_behind}
use Rattle.vortex_scan.proofs.Places.{each_at, get_set, get_set_other}
use Rattle.vortex_scan.proofs.Turning.{asks_due_fits, turn_fits}

-- Lists of truth values, and items of a root.

pub live_at : {S : Type 0} (slots : List (Slot S)) (i : ℕ) (slot : Slot S) → slice_get slots i ≡ Some slot → slice_get (liveness slots) i ≡ Some slot.live
live_at [] i slot there = absurd (cc)
live_at {S} (s ∷ ss) zero slot there = let same : s ≡ slot = cc in ap (λ (x : Slot S). Some x.live) same
live_at (s ∷ ss) (suc i) slot there = live_at ss i slot there

pub is_live_at : {S : Type 0} (slots : List (Slot S)) (i : ℕ) → is_live (slice_get slots i) ≡ true → slice_get (liveness slots) i ≡ Some true
is_live_at [] i live = absurd (cc)
is_live_at (s ∷ ss) zero live = ap (λ b. Some b) live
is_live_at (s ∷ ss) (suc i) live = is_live_at ss i live

-- a slot changes, and may end
pub live_put : {S : Type 0} (slots : List (Slot S)) (i : ℕ) (slot' : Slot S) → liveness (set slots i slot') ≡ set (liveness slots) i slot'.live
live_put [] zero slot' = refl
live_put [] (suc i) slot' = refl
live_put (s ∷ ss) zero slot' = refl
live_put (s ∷ ss) (suc i) slot' = ap (λ bs. s.live ∷ bs) (live_put ss i slot')

put_same : {A : Type 0} (xs : List A) (i : ℕ) (x : A) → slice_get xs i ≡ Some x → set xs i x ≡ xs
put_same [] i x e = absurd (cc)
put_same (y ∷ ys) zero x e = let same : x ≡ y = cc in ap (λ z. z ∷ ys) same
put_same (y ∷ ys) (suc i) x e = ap (λ zs. y ∷ zs) (put_same ys i x e)

live_set : {S : Type 0} (slots : List (Slot S)) (i : ℕ) (slot slot' : Slot S) → slice_get slots i ≡ Some slot → slot'.live ≡ slot.live → liveness (set slots i slot') ≡ liveness slots
live_set slots i slot slot' there same = live_put slots i slot' ∙ ap (λ b. set (liveness slots) i b) same ∙ put_same (liveness slots) i slot.live (live_at slots i slot there)

or_swap : (a b d : Bool) → (a || (b || d)) ≡ (b || (a || d))
or_swap true true d = refl
or_swap true false d = refl
or_swap false true d = refl
or_swap false false d = refl

or_none : (a : Bool) → (a || (false || false)) ≡ a
or_none true = refl
or_none false = refl

or_true : (a b : Bool) → b ≡ true → (a || b) ≡ true
or_true true b e = refl
or_true false b e = e

any_at : {A : Type 0} (p : A → Bool) (xs : List A) (i : ℕ) (x : A) → slice_get xs i ≡ Some x → p x ≡ true → list_any p xs ≡ true
any_at p [] i x there passes = absurd (cc)
any_at p (y ∷ ys) zero x there passes = let same : y ≡ x = cc in rw (same, passes) refl
any_at p (y ∷ ys) (suc i) x there passes = or_true (p y) (list_any p ys) (any_at p ys i x there passes)

any_removed : {A : Type 0} (p : A → Bool) (xs : List A) (i : ℕ) (x : A) → slice_get xs i ≡ Some x → list_any p xs ≡ (p x || list_any p (remove xs i))
any_removed p [] i x there = absurd (cc)
any_removed p (y ∷ ys) zero x there = let same : y ≡ x = cc in ap (λ z. p z || list_any p ys) same
any_removed p (y ∷ ys) (suc i) x there = ap (λ b. p y || b) (any_removed p ys i x there) ∙ or_swap (p y) (p x) (list_any p (remove ys i))

pub eqb_same : (n : ℕ) → eqb n n ≡ true
eqb_same n = grind (arith, nat_tests)

pub same_root : (a b : RootId) → eqb a.0 b.0 ≡ true → a ≡ b
same_root a b e = let same : a.0 ≡ b.0 = eqb-true _ _ e in λ i. record { 0 = same i }

module _ {W : Type 0} where
  pub has_set : (items : List (Item W)) (at : ℕ) (item now : Item W) (root : RootId) → slice_get items at ≡ Some item → now.root ≡ item.root → has_root root (set items at now) ≡ has_root root items
  has_set [] at item now root there same = absurd (cc)
  has_set (x ∷ xs) zero item now root there same =
      let e : item ≡ x = cc in
      ap (λ (r : RootId). eqb r.0 root.0 || has_root root xs) (same ∙ ap (λ (y : Item W). y.root) e)
  has_set (x ∷ xs) (suc at) item now root there same = ap (λ b. is_of_root root x || b) (has_set xs at item now root there same)

  pub has_own : (items : List (Item W)) (at : ℕ) (item : Item W) → slice_get items at ≡ Some item → has_root item.root items ≡ true
  has_own items at item there = any_at (is_of_root item.root) items at item there (eqb_same item.root.0)

  -- with another item of its root left, an item may leave
  has_removed : (items : List (Item W)) (at : ℕ) (item : Item W) (root : RootId) → slice_get items at ≡ Some item → has_root item.root (remove items at) ≡ true → has_root root (remove items at) ≡ has_root root items
  has_removed items at item root there others =
      let parts = any_removed (is_of_root root) items at item there in
      elim (is_of_root root item) as (λ b. is_of_root root item ≡ b → has_root root (remove items at) ≡ has_root root items) [
        | true ↦ λ e.
            let same : item.root ≡ root = same_root item.root root e in
            let left : has_root root (remove items at) ≡ true = rw same at others in
            left ∙ sym (parts ∙ ap (λ b. b || has_root root (remove items at)) e)
        | false ↦ λ e. sym (parts ∙ ap (λ b. b || has_root root (remove items at)) e)
      ] refl

  -- an item of another root may leave
  has_removed_other : (items : List (Item W)) (at : ℕ) (item : Item W) (root : RootId) → slice_get items at ≡ Some item → root.0 ≢ item.root.0 → has_root root (remove items at) ≡ has_root root items
  has_removed_other items at item root there differs =
      let no : is_of_root root item ≡ false = grind (arith, nat_tests) in
      sym (any_removed (is_of_root root) items at item there ∙ ap (λ b. b || has_root root (remove items at)) no)

  has_spawned : (items : List (Item W)) (at : ℕ) (item now child : Item W) (root : RootId) → slice_get items at ≡ Some item → now.root ≡ item.root → child.root ≡ item.root → has_root root (set items at now ++ child ∷ []) ≡ has_root root items
  has_spawned items at item now child root there same mine =
      let parts = list_any-append (is_of_root root) (set items at now) (child ∷ []) ∙ ap (λ b. b || (is_of_root root child || false)) (has_set items at item now root there same) in
      let whose : is_of_root root child ≡ is_of_root root item = ap (λ (r : RootId). eqb r.0 root.0) mine in
      elim (is_of_root root item) as (λ b. is_of_root root item ≡ b → has_root root (set items at now ++ child ∷ []) ≡ has_root root items) [
        | true ↦ λ e. let some = any_at (is_of_root root) items at item there e in parts ∙ ap (λ b. b || (is_of_root root child || false)) some ∙ sym some
        | false ↦ λ e. parts ∙ ap (λ b. has_root root items || (b || false)) (whose ∙ e) ∙ or_none (has_root root items)
      ] refl

  has_filtered : (items : List (Item W)) (gone root : RootId) → root.0 ≢ gone.0 → has_root root (filter (λ item. not (is_of_root gone item)) items) ≡ has_root root items
  has_filtered [] gone root differs = refl
  has_filtered (x ∷ xs) gone root differs =
      elim (is_of_root gone x) as (λ b. is_of_root gone x ≡ b → has_root root (cond (not b) (x ∷ filter (λ item. not (is_of_root gone item)) xs) (filter (λ item. not (is_of_root gone item)) xs)) ≡ has_root root (x ∷ xs)) [
        | true ↦ λ e.
            let no : is_of_root root x ≡ false = grind (arith, nat_tests) in
            has_filtered xs gone root differs ∙ sym (ap (λ b. b || has_root root xs) no)
        | false ↦ λ e. ap (λ b. is_of_root root x || b) (has_filtered xs gone root differs)
      ] refl

-- What steps do to roots.

abbrev pub SameRoots : {W S : Type 0} → Live W S → Live W S → Type 0
SameRoots old new = (liveness new.slots ≡ liveness old.slots) × ((root : RootId) → has_root root new.items ≡ has_root root old.items)

abbrev pub EndsRoot : {W S : Type 0} → RootId → Live W S → Live W S → Type 0
EndsRoot root old new = (slice_get (liveness old.slots) root.0 ≡ Some true) × (has_root root new.items ≡ false) × (liveness new.slots ≡ set (liveness old.slots) root.0 false)
    × ((other : RootId) → other.0 ≢ root.0 → has_root other new.items ≡ has_root other old.items)

abbrev pub LeavesRoots : {W S : Type 0} → Visited → Live W S → Live W S → Type 0
LeavesRoots visited.Went old new = SameRoots old new
LeavesRoots (visited.Batch batch) old new = SameRoots old new × (slice_get (liveness old.slots) batch.root.0 ≡ Some true)
LeavesRoots (visited.RootDone root) old new = EndsRoot root old new

module _ {W S : Type 0} where
  pub roots_same : (live : Live W S) → SameRoots live live
  roots_same live = (refl, λ root. refl)

  pub roots_on : (a b d : Live W S) → SameRoots a b → SameRoots b d → SameRoots a d
  roots_on a b d s t = (t.0 ∙ s.0, λ root. t.1 root ∙ s.1 root)

  pub leaves_on : (answer : Visited) (a b d : Live W S) → SameRoots a b → LeavesRoots answer b d → LeavesRoots answer a d
  leaves_on visited.Went a b d s t = roots_on a b d s t
  leaves_on (visited.Batch batch) a b d s t = (roots_on a b d s t.0, ap (λ bs. slice_get bs batch.root.0) (sym s.0) ∙ t.1)
  leaves_on (visited.RootDone root) a b d s t =
      (ap (λ bs. slice_get bs root.0) (sym s.0) ∙ t.0, t.1, t.2 ∙ ap (λ bs. set bs root.0 false) s.0, λ other ne. t.3 other ne ∙ s.1 other)

module _ {W S C : Type 0} (source : Ghosts S C) where
  retire_by : (others : Bool) (at : ℕ) (item : Item W) (old : Live W S) (slot : Slot S) (after : S) → slice_get old.items at ≡ Some item → slice_get old.slots item.root.0 ≡ Some slot → slice_get (liveness old.slots) item.root.0 ≡ Some true
      → has_root item.root (remove old.items at) ≡ others
      → LeavesRoots (cond others visited.Went (visited.RootDone item.root)) old (record old { items = remove old.items at; slots = set old.slots item.root.0 (record { source = after; live = others && slot.live }) })
  retire_by true at item old slot after there here live e =
      (live_set old.slots item.root.0 slot (record { source = after; live = slot.live }) here refl, λ root. has_removed old.items at item root there e)
  retire_by false at item old slot after there here live e =
      (live, e, live_put old.slots item.root.0 (record { source = after; live = false }), λ other ne. has_removed_other old.items at item other there ne)

  pub retire_leaves : (at : ℕ) (item : Item W) (old new : Live W S) (answer : Visited) → slice_get old.items at ≡ Some item → slice_get (liveness old.slots) item.root.0 ≡ Some true → Retires source at item old new answer → LeavesRoots answer old new
  retire_leaves at item old new answer there live r = rw (r.now, r.answers) (retire_by (has_root item.root (remove old.items at)) at item old r.slot r.after there r.there live refl)

  put_same_roots : (old : Live W S) (at : ℕ) (item now : Item W) → slice_get old.items at ≡ Some item → now.root ≡ item.root → SameRoots old (put at now old)
  put_same_roots old at item now there same = (refl, λ root. has_set old.items at item now root there same)

  pub settle_leaves : (shown : State) (at : ℕ) (item : Item W) (old new : Live W S) (answer : Visited) → slice_get old.items at ≡ Some item → slice_get (liveness old.slots) item.root.0 ≡ Some true → Settles source shown at item old new answer → LeavesRoots answer old new
  settle_leaves state.Done at item old new answer there live s = retire_leaves at item old new answer there live s
  settle_leaves state.NeedsCompute at item old new answer there live s = rw (s.0, s.1) (roots_same old)
  settle_leaves state.Waiting at item old new answer there live s = rw (s.1, s.2) (put_same_roots old at item (record item { ready = false }) there refl)

  publish_same : (at : ℕ) (item : Item W) (batch : List IoRequest) (old new : Live W S) → slice_get old.items at ≡ Some item → Publishes source at item batch old new → SameRoots old new
  publish_same at item batch old new there p =
      rw p.now (live_set old.slots item.root.0 p.slot (record p.slot { source = p.after }) p.there refl, λ root. has_set old.items at item (published item batch) root there refl)

  pub follow_leaves : {E : Type 0} (works : Works W C E) (out : Output W) (at : ℕ) (item : Item W) (old new : Live W S) (answer : Visited) → slice_get old.items at ≡ Some item → slice_get (liveness old.slots) item.root.0 ≡ Some true
      → Follows works source out at item old new answer → LeavesRoots answer old new
  follow_leaves works output.Done at item old new answer there live h = retire_leaves at item old new answer there live h
  follow_leaves works output.Continue at item old new answer there live h = rw (h.0, h.1) (roots_same old)
  follow_leaves works (output.NeedsIO batch) at item old new answer there live h =
      let p = h.1 in
      let first = publish_same at item batch old h.0 there p in
      let there' : slice_get h.0.items at ≡ Some (published item batch) = rw (ap (λ (l : Live W S). l.items) p.now) (get_set old.items at item (published item batch) there) in
      leaves_on answer old h.0 new first (settle_leaves (works.state_is item.work) at (published item batch) h.0 new answer there' (ap (λ bs. slice_get bs item.root.0) first.0 ∙ live) h.2)
  follow_leaves works (output.Child scope work) at item old new answer there live h =
      let p = h.0 in
      rw (p.now, h.1) (refl, λ root. has_spawned old.items at item (record item { next = item.next + 1 }) (child_of item old.next_owner scope work) root there refl refl)
  follow_leaves works (output.Batch array) at item old new answer there live h = rw (h.1, h.2) (roots_same old, live)

  pub visit_leaves : {E : Type 0} (works : Works W C E) (shown : State) (at : ℕ) (item : Item W) (old new : Live W S) (answer : Visited) → slice_get old.items at ≡ Some item → slice_get (liveness old.slots) item.root.0 ≡ Some true
      → Visits works source shown at item old new answer → LeavesRoots answer old new
  visit_leaves works state.Done at item old new answer there live h = settle_leaves state.Done at item old new answer there live h
  visit_leaves works state.Waiting at item old new answer there live h = settle_leaves state.Waiting at item old new answer there live h
  visit_leaves works state.NeedsCompute at item old new answer there live h =
      let now : Item W = computed item h.1 in
      leaves_on answer old (put at now old) new (put_same_roots old at item now there refl) (follow_leaves works h.0 at now (put at now old) new answer (get_set old.items at item now there) live h.3)

module _ {W S C E : Type 0} (works : Works W C E) (source : Ghosts S C) (payload : Meanings C) where
  delivers_same : (root : RootId) (completion : Completion C) (old new : List (Item W)) (other : RootId) → Delivers works root completion old new → has_root other new ≡ has_root other old
  delivers_same root completion old new other d = ap (has_root other) d.now ∙ has_set old d.at d.item (handed works d.item d.left d.work) other d.there refl

  any_delivers_same : (root : RootId) (answer : Option (Completion C)) (old new : List (Item W)) (other : RootId) → DeliversAny works root answer old new → has_root other new ≡ has_root other old
  any_delivers_same root None old new other d = ap (has_root other) d
  any_delivers_same root (Some completion) old new other d = delivers_same root completion old new other d

  pub complete_same : (root : RootId) (completion : Completion C) (items items' : List (Item W)) (slots : List (Slot S)) (owners : ℕ) → Delivers works root completion items items' → SameRoots (live_with items slots owners) (live_with items' slots owners)
  complete_same root completion items items' slots owners d = (refl, λ other. delivers_same root completion items items' other d)

  pub asks_same : (root : RootId) (answer : Option (Completion C)) (old new : Live W S) → Asks works source payload root answer old new → SameRoots old new
  asks_same root answer old new a = (
    ap (λ (l : Live W S). liveness l.slots) a.now ∙ live_set old.slots root.0 a.slot (record a.slot { source = a.after }) a.there refl,
    λ other. any_delivers_same root answer old.items new.items other a.delivers,
  )

  pub waits_same : (root : RootId) (old new : Live W S) → WaitsFor works source payload root old new → SameRoots old new
  waits_same root old new a = (
    ap (λ (l : Live W S). liveness l.slots) a.now ∙ live_set old.slots root.0 a.slot (record a.slot { source = a.after }) a.there refl,
    λ other. delivers_same root a.completion old.items new.items other a.delivers,
  )

  gives_same : (root times : ℕ) (old new : Live W S) → Gives works source payload root times old new → SameRoots old new
  gives_same root zero old new g = rw g (roots_same old)
  gives_same root (suc times) old new g = roots_on old g.0 new (gives_same root times old g.0 g.2) (asks_same (root_at root) (Some g.1) g.0 new g.3)

  asks_out_same : (root : ℕ) (live : Bool) (old new : Live W S) → AsksOut works source payload root live old new → SameRoots old new
  asks_out_same root true old new a = roots_on old a.1 new (gives_same root a.0 old a.1 a.2) (asks_same (root_at root) None a.1 new a.3)
  asks_out_same root false old new a = rw a (roots_same old)

  pub asks_all_same : (roots : ℕ) (old new : Live W S) → AsksAll works source payload roots old new → SameRoots old new
  asks_all_same zero old new a = rw a (roots_same old)
  asks_all_same (suc root) old new a = roots_on old a.0 new (asks_all_same root old a.0 a.1) (asks_out_same root (is_live (slice_get a.0.slots root)) a.0 new a.2)

  asks_live_same : (root : ℕ) (live : Bool) (old new : Live W S) (came : Bool) → AsksLive works source payload root live old new came → SameRoots old new
  asks_live_same root true old new came a = asks_same (root_at root) a.0 old new a.1
  asks_live_same root false old new came a = rw a.0 (roots_same old)

  pub asks_once_same : (roots : ℕ) (old new : Live W S) (came : Bool) → AsksOnce works source payload roots old new came → SameRoots old new
  asks_once_same zero old new came a = rw a.0 (roots_same old)
  asks_once_same (suc root) old new came a = roots_on old a.0 new (asks_once_same root old a.0 a.1 a.3) (asks_live_same root (is_live (slice_get a.0.slots root)) a.0 new a.2 a.4)

  pub asks_due_same : (asked : Bool) (old new : RunState W S) → AsksIfDue works source payload asked old new → SameRoots old.live new.live
  asks_due_same true old new a = asks_all_same (length old.live.slots) old.live new.live a.1.asks
  asks_due_same false old new a = rw a.0 (roots_same old.live)

  pub turn_leaves : (old new : RunState W S) (came : Visited) → LiveFits source old.live → Turns works source payload old new came → LeavesRoots came old.live new.live
  turn_leaves old new came fits t =
      let v = t.visits in
      let fits' = asks_due_fits works source payload t.asked old t.between fits t.asks in
      let f = each_at (ItemFits source t.between.live.slots t.between.live.next_owner) t.between.live.items v.at v.item fits'.each v.least.there in
      let live : slice_get (liveness t.between.live.slots) v.item.root.0 ≡ Some true = live_at t.between.live.slots v.item.root.0 f.slot f.there ∙ ap (λ b. Some b) f.live in
      leaves_on came old.live t.between.live new.live (asks_due_same t.asked old t.between t.asks) (visit_leaves source works (works.state_is v.item.work) v.at v.item t.between.live new.live came v.least.there live v.visits)

  pub goes_same : (turns : ℕ) (old new : RunState W S) → LiveFits source old.live → GoesOn works source payload turns old new → SameRoots old.live new.live × LiveFits source new.live
  goes_same zero old new fits g = rw g (roots_same old.live, fits)
  goes_same (suc turns) old new fits g =
      let before = goes_same turns old g.0 fits g.1 in
      (roots_on old.live g.0.live new.live before.0 (turn_leaves g.0 new visited.Went before.1 g.2), turn_fits works source payload g.0 new visited.Went before.1 g.2)

  -- what an answer tells of roots, and how they are then peopled
  tells_on : (answer : Progress) (a b d : Live W S) → SameRoots a b → TellsRoots answer b d → TellsRoots answer a d
  tells_on (progress.Batch batch) a b d s t = (ap (λ bs. slice_get bs batch.root.0) (sym s.0) ∙ t.0, t.1 ∙ s.0)
  tells_on (progress.RootDone root) a b d s t = (ap (λ bs. slice_get bs root.0) (sym s.0) ∙ t.0, t.1, t.2 ∙ ap (λ bs. set bs root.0 false) s.0)
  tells_on progress.Waiting a b d s t = t ∙ s.0
  tells_on progress.Idle a b d s t = t ∙ s.0

  ends_tell : (old new : RunState W S) (answer : Progress) → LiveFits source old.live → Ends works source payload old new answer → TellsRoots answer old.live new.live
  ends_tell old new (progress.Batch batch) fits t = let l = turn_leaves old new (visited.Batch batch) fits t in (l.1, l.0.0)
  ends_tell old new (progress.RootDone root) fits t = let l = turn_leaves old new (visited.RootDone root) fits t in (l.0, l.1, l.2)
  ends_tell old new progress.Waiting fits t = (asks_due_same true old new t.0).0
  ends_tell old new progress.Idle fits t = (asks_due_same true old new t.0).0

  pub advances_tell : (old new : RunState W S) (answer : Progress) → LiveFits source old.live → Advances works source payload old new answer → TellsRoots answer old.live new.live
  advances_tell old new answer fits a =
      let before = goes_same a.turns old a.between fits a.goes in
      tells_on answer old.live a.between.live new.live before.0 (ends_tell a.between new answer before.1 a.ends)

-- Each live root has an item.
module _ {W S : Type 0} where
  pub peopled_same : (old new : Live W S) → SameRoots old new → ArePeopled old → ArePeopled new
  peopled_same old new s p root live = s.1 root ∙ p root (ap (λ bs. slice_get bs root.0) (sym s.0) ∙ live)

  -- one root ends, and the others keep their items
  pub peopled_ended : (old new : Live W S) (gone : RootId) → liveness new.slots ≡ set (liveness old.slots) gone.0 false → slice_get (liveness old.slots) gone.0 ≡ Some true
      → ((other : RootId) → other.0 ≢ gone.0 → has_root other new.items ≡ has_root other old.items) → ArePeopled old → ArePeopled new
  peopled_ended old new gone now was keep p root live =
      elim (eqb root.0 gone.0) as (λ b. eqb root.0 gone.0 ≡ b → has_root root new.items ≡ true) [
        | true ↦ λ e.
            let same : root.0 ≡ gone.0 = eqb-true _ _ e in
            let ended : slice_get (liveness new.slots) root.0 ≡ Some false = rw (now, same) (get_set (liveness old.slots) gone.0 true false was) in
            absurd (cc)
        | false ↦ λ e.
            let differs : root.0 ≢ gone.0 = λ h. let t : eqb root.0 gone.0 ≡ true = rw h (eqb_same gone.0) in cc in
            let before : slice_get (liveness old.slots) root.0 ≡ Some true = sym (get_set_other (liveness old.slots) gone.0 root.0 false differs) ∙ ap (λ bs. slice_get bs root.0) (sym now) ∙ live in
            keep root differs ∙ p root before
      ] refl

  pub peopled_left : (answer : Visited) (old new : Live W S) → LeavesRoots answer old new → ArePeopled old → ArePeopled new
  peopled_left visited.Went old new l p = peopled_same old new l p
  peopled_left (visited.Batch batch) old new l p = peopled_same old new l.0 p
  peopled_left (visited.RootDone root) old new l p = peopled_ended old new root l.2 l.0 l.3 p

get_pushed : (bs : List Bool) (i : ℕ) → slice_get (bs ++ true ∷ []) i ≡ Some true → (slice_get bs i ≡ Some true) ⊎ (i ≡ length bs)
get_pushed [] zero e = inr refl
get_pushed [] (suc i) e = absurd (cc)
get_pushed (b ∷ bs) zero e = inl e
get_pushed (b ∷ bs) (suc i) e = ⊎_elim (λ h. inl h) (λ h. inr (ap (λ n. suc n) h)) (get_pushed bs i e)

length_live : {S : Type 0} (slots : List (Slot S)) → length (liveness slots) ≡ length slots
length_live [] = refl
length_live (s ∷ ss) = ap (λ n. suc n) (length_live ss)

-- a root joins with its item
pub admit_peopled : {W S : Type 0} (items : List (Item W)) (slots : List (Slot S)) (owners owners' roots : ℕ) (source : S) (item : Item W) → length slots ≡ roots → item.root.0 ≡ roots → ArePeopled (live_with items slots owners)
    → ArePeopled (live_with (items ++ item ∷ []) (slots ++ record { source = source; live = true } ∷ []) owners')
admit_peopled {W} {S} items slots owners owners' roots source item long mine p root live =
    let slot : Slot S = record { source = source; live = true } in
    let joined : liveness (slots ++ slot ∷ []) ≡ liveness slots ++ true ∷ [] = map-append (λ (s : Slot S). s.live) slots (slot ∷ []) in
    ⊎_elim (λ before. any_before (is_of_root root) items (item ∷ []) (p root before))
    (λ last.
    let same : item.root.0 ≡ root.0 = mine ∙ sym long ∙ sym (length_live slots) ∙ sym last in
    let passes : is_of_root root item ≡ true = rw same (eqb_same root.0) in
    any_behind (is_of_root root) items (item ∷ []) (rw passes refl))
    (get_pushed (liveness slots) root.0 (ap (λ bs. slice_get bs root.0) (sym joined) ∙ live))

-- a root leaves with its items
cancels_peopled : {W S C : Type 0} (source : Ghosts S C) (root : RootId) (slot : Slot S) (old new : Live W S) → slice_get old.slots root.0 ≡ Some slot → slot.live ≡ true → Cancels source root slot old new → ArePeopled old → ArePeopled new
cancels_peopled {W} {S} source root slot old new there live c p =
    let now : liveness new.slots ≡ set (liveness old.slots) root.0 false = ap (λ (l : Live W S). liveness l.slots) c.now ∙ live_put old.slots root.0 (record { source = c.after; live = false }) in
    peopled_ended old new root now (live_at old.slots root.0 slot there ∙ ap (λ b. Some b) live)
    (λ other ne. ap (λ (l : Live W S). has_root other l.items) c.now ∙ has_filtered old.items root other ne) p

pub cancel_peopled : {W S C : Type 0} (source : Ghosts S C) (root : RootId) (found : Option (Slot S)) (old new : Live W S) → slice_get old.slots root.0 ≡ found → CancelsLive source root found old new → ArePeopled old → ArePeopled new
cancel_peopled source root None old new there c p = rw c p
cancel_peopled source root (Some slot) old new there c p =
    elim slot.live as (λ b. slot.live ≡ b → ArePeopled new)
    [ true ↦ λ e. cancels_peopled source root slot old new there e (c.0 e) p | false ↦ λ e. rw (c.1 e) p ] refl

-- the roots that have items after a call that went on
module _ {W S C E : Type 0} (works : Works W C E) (source : Ghosts S C) (payload : Meanings C) where
  ends_peopled : (old new : RunState W S) (answer : Progress) → LiveFits source old.live → Ends works source payload old new answer → ArePeopled old.live → ArePeopled new.live
  ends_peopled old new (progress.Batch batch) fits t p = peopled_left (visited.Batch batch) old.live new.live (turn_leaves works source payload old new (visited.Batch batch) fits t) p
  ends_peopled old new (progress.RootDone root) fits t p = peopled_left (visited.RootDone root) old.live new.live (turn_leaves works source payload old new (visited.RootDone root) fits t) p
  ends_peopled old new progress.Waiting fits t p = peopled_same old.live new.live (asks_due_same works source payload true old new t.0) p
  ends_peopled old new progress.Idle fits t p = peopled_same old.live new.live (asks_due_same works source payload true old new t.0) p

  pub advances_peopled : (old new : RunState W S) (answer : Progress) → LiveFits source old.live → Advances works source payload old new answer → ArePeopled old.live → ArePeopled new.live
  advances_peopled old new answer fits a p =
      let before = goes_same works source payload a.turns old a.between fits a.goes in
      ends_peopled a.between new answer before.1 a.ends (peopled_same old.live a.between.live before.0 p)
