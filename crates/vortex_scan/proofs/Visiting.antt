-- A run that fits does so after a visit.
use Rattle.std.proofs.Common.{◌≡◌, ◌≢◌, ℕ, ◌+◌, ◌<◌, List, [], ◌∷◌, ◌++◌, refl, ap, Bool, true, false, ◌&&◌, ◌||◌, Some, arith, filter, map}
use Rattle.std.specs.Prelude.{slice_get}
use Rattle.std.specs.List.{AllByRecursion, list_any, remove}
use Rattle.std.proofs.Math.ListN.{set}
use Rattle.std.proofs.lemmas.Bool.Decides.{nat_tests}
use Rattle.vortex_io.specs.Source.{fetch_of, fetches, is_fetch, is_named, without_owner}
use Rattle.vortex_io.specs.declared.ids.IoOwnerId.{IoOwnerId}
use Rattle.vortex_io.specs.declared.request.Fetch.{Fetch}
use Rattle.vortex_io.specs.declared.request.IoRequest.{IoRequest}
use Rattle.vortex_io.specs.declared.source.IoSource.{Ghosts}
use Rattle.vortex_scan_types.specs.declared.batch.WorkScope.{WorkScope}
use Rattle.vortex_scan.specs.declared.errors.Visited.{Visited}
use Rattle.vortex_scan.specs.declared.item.Item.{Item}
use Rattle.vortex_scan.specs.declared.item.Slot.{Slot}
use Rattle.vortex_scan.specs.declared.state.Output.{Output}
use Rattle.vortex_scan.specs.declared.state.Output.TheVariants as output
use Rattle.vortex_scan.specs.declared.state.State.{State}
use Rattle.vortex_scan.specs.declared.state.State.TheVariants as state
use Rattle.vortex_scan.specs.declared.worker.Worker.{Ghosts as Works}
use Rattle.vortex_scan.specs.Fits.{AreOwn, ItemFits, LiveFits}
use Rattle.vortex_scan.specs.RunState.{Live, has_root, is_of_root, live_with, put}
use Rattle.vortex_scan.specs.Steps.{ClearsLast, Follows, Publishes, Retires, Settles, Spawns, Visits, child_of, computed, published}
use Rattle.vortex_scan.proofs.Fitting.{any_before, any_behind, fits_remove, fits_set, other_called, other_root, released_stays, rising_push, rising_set}
use Rattle.vortex_scan.proofs.Places.{each_append, each_at, each_push, each_set, each_weaker, get_set, none_passes}

each_all : {A : Type 0} (Q : A → Type 0) (xs : List A) → ((x : A) → Q x) → AllByRecursion Q xs
each_all Q [] f = tt
each_all Q (x ∷ xs) f = (f x, each_all Q xs f)

-- a batch's fetches are its owner's, and are found among themselves
fetches_own : (owner : IoOwnerId) (requests : List IoRequest) → AreOwn owner (map (fetch_of owner) requests)
fetches_own owner [] = tt
fetches_own owner (r ∷ rs) = (refl, fetches_own owner rs)

found_self : (fetch : Fetch) → is_named fetch.owner fetch.request fetch ≡ true
found_self fetch = grind (arith, nat_tests)

or_right : (a b : Bool) → b ≡ true → (a || b) ≡ true
or_right true b e = refl
or_right false b e = e

found_more : (x : Fetch) (fs : List Fetch) (f : Fetch) → list_any (is_named f.owner f.request) fs ≡ true → list_any (is_named f.owner f.request) (x ∷ fs) ≡ true
found_more x fs f e = or_right (is_named f.owner f.request x) (list_any (is_named f.owner f.request) fs) e

found_all : (fs : List Fetch) → AllByRecursion (λ (f : Fetch). list_any (is_named f.owner f.request) fs ≡ true) fs
found_all [] = tt
found_all (x ∷ fs) =
    let here : list_any (is_named x.owner x.request) (x ∷ fs) ≡ true = rw (found_self x) refl in
    (here, each_weaker (λ (f : Fetch). list_any (is_named f.owner f.request) fs ≡ true) (λ (f : Fetch). list_any (is_named f.owner f.request) (x ∷ fs) ≡ true) fs (found_more x fs) (found_all fs))

nothing_left : {A : Type 0} (xs ys : List A) → xs ++ ys ≡ [] → xs ≡ []
nothing_left [] ys e = refl
nothing_left (x ∷ xs) ys e = absurd (cc)

module _ {W S C : Type 0} (source : Ghosts S C) where
  at_fits : (old : Live W S) (at : ℕ) (item : Item W) → LiveFits source old → slice_get old.items at ≡ Some item → ItemFits source old.slots old.next_owner item
  at_fits old at item fits there = each_at (ItemFits source old.slots old.next_owner) old.items at item fits.each there

  same_slot : (old : Live W S) (item : Item W) (slot : Slot S) (f : ItemFits source old.slots old.next_owner item) → slice_get old.slots item.root.0 ≡ Some slot → slot ≡ f.slot
  same_slot old item slot f there = let h = f.there in cc

  left_fits : (b : Bool) (items : List (Item W)) (slots : List (Slot S)) (owners at : ℕ) (item : Item W) (slot : Slot S) (released after : S) → LiveFits source (live_with items slots owners) → slice_get items at ≡ Some item
      → slice_get slots item.root.0 ≡ Some slot → source.outstanding released ≡ without_owner item.owner (source.outstanding slot.source) → has_root item.root (remove items at) ≡ b → ClearsLast source b released after
      → LiveFits source (live_with (remove items at) (set slots item.root.0 (record { source = after; live = b && slot.live })) owners)
  left_fits true items slots owners at item slot released after fits there here given others c =
      let slot' : Slot S = record { source = after; live = slot.live } in
      fits_remove source items slots (set slots item.root.0 slot') owners at item fits there
      (each_all (λ (other : Item W). other.owner.0 ≢ item.owner.0 → ItemFits source slots owners other → ItemFits source (set slots item.root.0 slot') owners other) (remove items at)
      (λ other ne f. other_called source slots item.root.0 owners owners slot slot' item.owner here refl (omega arith)
      (rw (c, given) (released_stays item.owner (source.outstanding slot.source))) other ne f))
  left_fits false items slots owners at item slot released after fits there here given others c =
      let slot' : Slot S = record { source = after; live = false } in
      fits_remove source items slots (set slots item.root.0 slot') owners at item fits there
      (each_weaker (λ (other : Item W). is_of_root item.root other ≡ false) (λ (other : Item W). other.owner.0 ≢ item.owner.0 → ItemFits source slots owners other → ItemFits source (set slots item.root.0 slot') owners other) (remove items at)
      (λ other e ne f. other_root source slots item.root.0 owners slot' other (λ h. let t : is_of_root item.root other ≡ true = grind (arith, nat_tests) in cc) f)
      (none_passes (is_of_root item.root) (remove items at) others))

  pub retire_fits : (at : ℕ) (item : Item W) (old new : Live W S) (answer : Visited) → LiveFits source old → slice_get old.items at ≡ Some item → Retires source at item old new answer → LiveFits source new
  retire_fits at item old new answer fits there r =
      rw r.now (left_fits (has_root item.root (remove old.items at)) old.items old.slots old.next_owner at item r.slot r.released r.after fits there r.there r.releases.accounts refl r.clears)

  -- one item changes, and no source
  pub item_set : (old : Live W S) (at : ℕ) (item now : Item W) → LiveFits source old → slice_get old.items at ≡ Some item → now.owner ≡ item.owner → ItemFits source old.slots old.next_owner now → LiveFits source (put at now old)
  item_set old at item now fits there same one = fits_set source old.items old.slots old.slots old.next_owner old.next_owner at item now fits there (λ other ne f. f) same one

  pub settle_fits : (shown : State) (at : ℕ) (item : Item W) (old new : Live W S) (answer : Visited) → LiveFits source old → slice_get old.items at ≡ Some item → Settles source shown at item old new answer → LiveFits source new
  settle_fits state.Done at item old new answer fits there s = retire_fits at item old new answer fits there s
  settle_fits state.NeedsCompute at item old new answer fits there s = rw s.0 fits
  settle_fits state.Waiting at item old new answer fits there s =
      let f = at_fits old at item fits there in
      rw s.1 (item_set old at item (record item { ready = false }) fits there refl
      (record { slot = f.slot; there = f.there; live = f.live; kept = f.kept; own = f.own; distinct = f.distinct; owner = f.owner; next = f.next; parked = λ e. s.0 }))

  pub publish_fits : (at : ℕ) (item : Item W) (batch : List IoRequest) (old new : Live W S) → LiveFits source old → slice_get old.items at ≡ Some item → Publishes source at item batch old new → LiveFits source new
  publish_fits at item batch old new fits there p =
      let f = at_fits old at item fits there in
      let mine = same_slot old item p.slot f p.there in
      let slot' : Slot S = record p.slot { source = p.after } in
      let given : source.outstanding p.after ≡ source.outstanding p.slot.source ++ fetches item.owner batch = p.submits.accounts in
      let Before : Fetch → Type 0 = λ x. list_any (is_named x.owner x.request) (source.outstanding p.slot.source) ≡ true in
      let After : Fetch → Type 0 = λ x. list_any (is_named x.owner x.request) (source.outstanding p.after) ≡ true in
      let kept' : AllByRecursion Before item.asked = rw (← mine) at f.kept in
      rw p.now (fits_set source old.items old.slots (set old.slots item.root.0 slot') old.next_owner old.next_owner at item (published item batch) fits there
      (λ other ne g. other_called source old.slots item.root.0 old.next_owner old.next_owner p.slot slot' item.owner p.there refl (omega arith)
      (λ o n k h. rw given (any_before (is_named o n) (source.outstanding p.slot.source) (fetches item.owner batch) h)) other ne g) refl
      (record {
        slot = slot';
        there = get_set old.slots item.root.0 p.slot slot' p.there;
        live = rw (← mine) at f.live;
        kept = each_append After item.asked (fetches item.owner batch)
            (each_weaker Before After item.asked (λ x h. rw given (any_before (is_named x.owner x.request) (source.outstanding p.slot.source) (fetches item.owner batch) h)) kept')
            (each_weaker (λ (x : Fetch). list_any (is_named x.owner x.request) (fetches item.owner batch) ≡ true) After (fetches item.owner batch)
            (λ x h. rw given (any_behind (is_named x.owner x.request) (source.outstanding p.slot.source) (fetches item.owner batch) h)) (found_all (fetches item.owner batch)));
        own = each_append (λ (x : Fetch). x.owner ≡ item.owner) item.asked (fetches item.owner batch) f.own (fetches_own item.owner (filter is_fetch batch));
        distinct = p.fresh;
        owner = f.owner;
        next = f.next;
        parked = λ e none. f.parked e (nothing_left item.asked (fetches item.owner batch) none);
      }))

  pub spawn_fits : (at : ℕ) (item : Item W) (scope : WorkScope) (work : W) (old new : Live W S) → LiveFits source old → slice_get old.items at ≡ Some item → Spawns at item scope work old new → LiveFits source new
  spawn_fits at item scope work old new fits there p =
      let f = at_fits old at item fits there in
      let now : Item W = record item { next = item.next + 1 } in
      let child : Item W = child_of item old.next_owner scope work in
      let Old : Item W → Type 0 = ItemFits source old.slots old.next_owner in
      let New : Item W → Type 0 = ItemFits source old.slots (old.next_owner + 1) in
      let more : AllByRecursion New old.items = each_weaker Old New old.items
      (λ x g. record { slot = g.slot; there = g.there; live = g.live; kept = g.kept; own = g.own; distinct = g.distinct; owner = omega (arith, g.owner); next = omega (arith, g.next); parked = g.parked }) fits.each in
      let one : New now = record { slot = f.slot; there = f.there; live = f.live; kept = f.kept; own = f.own; distinct = f.distinct; owner = omega (arith, f.owner); next = omega (arith, f.next); parked = f.parked } in
      let two : New child = record { slot = f.slot; there = f.there; live = f.live; kept = tt; own = tt; distinct = refl; owner = omega arith; next = omega arith; parked = λ e. absurd (cc) } in
      let Below : Item W → Type 0 = λ other. other.owner.0 < old.next_owner in
      let below : AllByRecursion Below old.items = each_weaker Old Below old.items (λ x g. g.owner) fits.each in
      rw p.now (record {
        each = each_push New (set old.items at now) child (each_set New old.items at now more one) two;
        rising = rising_push (set old.items at now) child old.next_owner refl (each_set Below old.items at now below f.owner) (rising_set old.items at item now there refl fits.rising);
      })

  pub follow_fits : {E : Type 0} (works : Works W C E) (out : Output W) (at : ℕ) (item : Item W) (old new : Live W S) (answer : Visited) → LiveFits source old → slice_get old.items at ≡ Some item → Follows works source out at item old new answer → LiveFits source new
  follow_fits works output.Done at item old new answer fits there h = retire_fits at item old new answer fits there h
  follow_fits works output.Continue at item old new answer fits there h = rw h.0 fits
  follow_fits works (output.NeedsIO batch) at item old new answer fits there h =
      let p = h.1 in
      let there' : slice_get h.0.items at ≡ Some (published item batch) = rw (ap (λ (l : Live W S). l.items) p.now) (get_set old.items at item (published item batch) there) in
      settle_fits (works.state_is item.work) at (published item batch) h.0 new answer (publish_fits at item batch old h.0 fits there p) there' h.2
  follow_fits works (output.Child scope work) at item old new answer fits there h = spawn_fits at item scope work old new fits there h.0
  follow_fits works (output.Batch array) at item old new answer fits there h = rw h.1 fits

  pub visit_fits : {E : Type 0} (works : Works W C E) (shown : State) (at : ℕ) (item : Item W) (old new : Live W S) (answer : Visited) → LiveFits source old → slice_get old.items at ≡ Some item → Visits works source shown at item old new answer → LiveFits source new
  visit_fits works state.Done at item old new answer fits there h = settle_fits state.Done at item old new answer fits there h
  visit_fits works state.Waiting at item old new answer fits there h = settle_fits state.Waiting at item old new answer fits there h
  visit_fits works state.NeedsCompute at item old new answer fits there h =
      let f = at_fits old at item fits there in
      let now : Item W = computed item h.1 in
      let one : ItemFits source old.slots old.next_owner now = record { slot = f.slot; there = f.there; live = f.live; kept = f.kept; own = f.own; distinct = f.distinct; owner = f.owner; next = f.next; parked = f.parked } in
      follow_fits works h.0 at now (put at now old) new answer (item_set old at item now fits there refl one) (get_set old.items at item now there) h.3
