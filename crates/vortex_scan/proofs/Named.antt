-- Each number of a fetch goes on to name one target, step by step.
use Rattle.std.proofs.Common.{◌≡◌, ◌≢◌, ℕ, ◌+◌, ◌<◌, List, [], ◌∷◌, ◌++◌, refl, sym, ◌∙◌, ap, subst, Bool, true, false, cond, not, ◌&&◌, Option, None, Some, Ok, arith, IsTrue, filter, map, ⊎_elim}
use Rattle.std.specs.Prelude.{slice_get}
use Rattle.std.specs.List.{AllByRecursion, remove}
use Rattle.std.proofs.Math.ListN.{set}
use Rattle.std.proofs.lemmas.List.Elements.{All-head, All-tail}
use Rattle.vortex_io.specs.Source.{Completes, TakesNone, TakesOne, fetch_of, fetches, is_fetch, is_of_others}
use Rattle.vortex_io.specs.declared.ids.IoOwnerId.{IoOwnerId}
use Rattle.vortex_io.specs.declared.ids.IoRequestId.{IoRequestId}
use Rattle.vortex_io.specs.declared.payload.Payload.{Ghosts as Meanings}
use Rattle.vortex_io.specs.declared.request.Completion.{Completion}
use Rattle.vortex_io.specs.declared.request.Fetch.{Fetch}
use Rattle.vortex_io.specs.declared.request.IoRequest.{IoRequest}
use Rattle.vortex_io.specs.declared.request.IoTarget.{IoTarget}
use Rattle.vortex_io.specs.declared.source.IoSource.{Ghosts}
use Rattle.vortex_scan_types.specs.declared.batch.WorkScope.{WorkScope}
use Rattle.vortex_scan.specs.declared.errors.Visited.{Visited}
use Rattle.vortex_scan.specs.declared.item.Item.{Item}
use Rattle.vortex_scan.specs.declared.item.Slot.{Slot}
use Rattle.vortex_scan_types.specs.declared.place.RootId.{RootId}
use Rattle.vortex_scan.specs.declared.state.Output.{Output}
use Rattle.vortex_scan.specs.declared.state.Output.TheVariants as output
use Rattle.vortex_scan.specs.declared.state.State.{State}
use Rattle.vortex_scan.specs.declared.state.State.TheVariants as state
use Rattle.vortex_scan.specs.declared.worker.Worker.{Ghosts as Works}
use Rattle.vortex_scan.specs.Fits.{ItemFits, LiveFits}
use Rattle.vortex_scan.specs.Naming.{AskAsNamed, IsNamed, ItemIsNamed}
use Rattle.vortex_scan.specs.Owed.{NamesTargets}
use Rattle.vortex_scan.specs.RunState.{Live, has_root, is_of_root, live_with, put}
use Rattle.vortex_scan.specs.Steps.{Asks, Cancels, CancelsLive, ClearsLast, Delivers, Follows, Publishes, Retires, Settles, Spawns, Visits, WaitsFor, child_of, computed, handed, published}
use Rattle.vortex_scan.proofs.Fitting.{each_both, each_fewer, others}
use Rattle.vortex_scan.proofs.Visiting.{item_set}
use Rattle.vortex_scan.proofs.Places.{each_append, each_at, each_filter, each_push, each_remove, each_set, each_set_of_removed, each_weaker, get_set}

-- one fetch asks as its item names it
abbrev pub asks_so : {W : Type 0} → (W → IoRequestId → Option IoTarget) → Item W → Fetch → Type 0
asks_so names item fetch = fetch.owner ≡ item.owner → names item.work fetch.request ≡ Some fetch.target

-- a list of fetches that has none but those of another
abbrev pub IsLess : List Fetch → List Fetch → Type 1
IsLess old new = (Q : Fetch → Type 0) → AllByRecursion Q old → AllByRecursion Q new

module _ {W : Type 0} (names : W → IoRequestId → Option IoTarget) where
  pub same_names : (item now : Item W) (list : List Fetch) → now.owner ≡ item.owner → ((number : IoRequestId) → names now.work number ≡ names item.work number) → AskAsNamed names item list → AskAsNamed names now list
  same_names item now list owner kept a = each_weaker (asks_so names item) (asks_so names now) list (λ x h own. kept x.request ∙ h (own ∙ owner)) a

  -- fetches of another owner ask as anyone names them
  foreign : (item other : Item W) (batch : List IoRequest) → other.owner.0 ≢ item.owner.0 → AskAsNamed names other (fetches item.owner batch)
  foreign item other [] differs = tt
  foreign item other (r ∷ rs) differs =
      elim (is_fetch r) as (λ b. AllByRecursion (asks_so names other) (map (fetch_of item.owner) (cond b (r ∷ filter is_fetch rs) (filter is_fetch rs)))) [
        | true ↦ ((λ own. absurd (differs (sym (ap (λ (o : IoOwnerId). o.0) own)))), foreign item other rs differs)
        | false ↦ foreign item other rs differs
      ]

  pub own_targets : (item now : Item W) (batch : List IoRequest) → ((number : IoRequestId) → names now.work number ≡ names item.work number) → NamesTargets (names item.work) batch → AskAsNamed names now (fetches now.owner batch)
  own_targets item now [] kept targets = tt
  own_targets item now (r ∷ rs) kept targets =
      let Asks' : IoRequest → Type 0 = λ request. IsTrue (is_fetch request) → names item.work request.request ≡ Some request.target in
      let head = All-head Asks' r rs targets in
      let tail = own_targets item now rs kept (All-tail Asks' r rs targets) in
      elim (is_fetch r) as (λ b. is_fetch r ≡ b → AllByRecursion (asks_so names now) (map (fetch_of now.owner) (cond b (r ∷ filter is_fetch rs) (filter is_fetch rs)))) [
        | true ↦ λ e. ((λ own. kept r.request ∙ head e), tail)
        | false ↦ λ e. tail
      ] refl

below : (owner : IoOwnerId) (owners : ℕ) (batch : List IoRequest) → owner.0 < owners → AllByRecursion (λ (fetch : Fetch). fetch.owner.0 < owners) (fetches owner batch)
below owner owners [] h = tt
below owner owners (r ∷ rs) h =
    elim (is_fetch r) as (λ b. AllByRecursion (λ (fetch : Fetch). fetch.owner.0 < owners) (map (fetch_of owner) (cond b (r ∷ filter is_fetch rs) (filter is_fetch rs)))) [
      | true ↦ (h, below owner owners rs h)
      | false ↦ below owner owners rs h
    ]

module _ {W S C : Type 0} (names : W → IoRequestId → Option IoTarget) (source : Ghosts S C) where
  -- an item that names the same is named
  again : (slots : List (Slot S)) (item now : Item W) → now.owner ≡ item.owner → ((number : IoRequestId) → names now.work number ≡ names item.work number)
      → AskAsNamed names item now.asked → ItemIsNamed names source slots item → ItemIsNamed names source slots now
  again slots item now owner kept asked n = record {
    asked = same_names names item now now.asked owner kept asked;
    outstanding = each_weaker (λ (slot : Slot S). AskAsNamed names item (source.outstanding slot.source)) (λ (slot : Slot S). AskAsNamed names now (source.outstanding slot.source)) slots
        (λ slot h. same_names names item now (source.outstanding slot.source) owner kept h) n.outstanding;
  }

  -- one item changes, and names the same
  pub put_named : (old : Live W S) (at : ℕ) (item now : Item W) → slice_get old.items at ≡ Some item → now.owner ≡ item.owner → ((number : IoRequestId) → names now.work number ≡ names item.work number)
      → AskAsNamed names item now.asked → IsNamed names source old → IsNamed names source (put at now old)
  put_named old at item now there owner kept asked n =
      let Named = ItemIsNamed names source old.slots in
      record { each = each_set Named old.items at now n.each (again old.slots item now owner kept asked (each_at Named old.items at item n.each there)); given = n.given }

  -- a source is called, and then has less outstanding
  pub less_named : (items : List (Item W)) (slots : List (Slot S)) (owners root : ℕ) (slot slot' : Slot S) → slice_get slots root ≡ Some slot → IsLess (source.outstanding slot.source) (source.outstanding slot'.source)
      → IsNamed names source (live_with items slots owners) → IsNamed names source (live_with items (set slots root slot') owners)
  less_named items slots owners root slot slot' there less n =
      let Before : Fetch → Type 0 = λ fetch. fetch.owner.0 < owners in
      record {
        each = each_weaker (ItemIsNamed names source slots) (ItemIsNamed names source (set slots root slot')) items
            (λ item m. let Asked : Slot S → Type 0 = λ s. AskAsNamed names item (source.outstanding s.source) in
            record { asked = m.asked; outstanding = each_set Asked slots root slot' m.outstanding (less (asks_so names item) (each_at Asked slots root slot m.outstanding there)) }) n.each;
        given = let Given : Slot S → Type 0 = λ s. AllByRecursion Before (source.outstanding s.source) in each_set Given slots root slot' n.given (less Before (each_at Given slots root slot n.given there));
      }

  cleared_less : (others : Bool) (owner : IoOwnerId) (list : List Fetch) (released after : S) → source.outstanding released ≡ filter (is_of_others owner) list → ClearsLast source others released after → IsLess list (source.outstanding after)
  cleared_less true owner list released after given clears Q a = rw (clears, given) (each_filter Q Q (is_of_others owner) list (λ x e q. q) a)
  cleared_less false owner list released after given clears Q a = rw clears.accounts tt

  pub retire_named : (at : ℕ) (item : Item W) (old new : Live W S) (answer : Visited) → IsNamed names source old → Retires source at item old new answer → IsNamed names source new
  retire_named at item old new answer n r =
      let slot' : Slot S = record { source = r.after; live = has_root item.root (remove old.items at) && r.slot.live } in
      rw r.now (less_named (remove old.items at) old.slots old.next_owner item.root.0 r.slot slot' r.there
      (cleared_less (has_root item.root (remove old.items at)) item.owner (source.outstanding r.slot.source) r.released r.after r.releases.accounts r.clears)
      (record { each = each_remove (ItemIsNamed names source old.slots) old.items at n.each; given = n.given }))

  pub settle_named : (shown : State) (at : ℕ) (item : Item W) (old new : Live W S) (answer : Visited) → slice_get old.items at ≡ Some item → IsNamed names source old → Settles source shown at item old new answer → IsNamed names source new
  settle_named state.Done at item old new answer there n s = retire_named at item old new answer n s
  settle_named state.NeedsCompute at item old new answer there n s = rw s.0 n
  settle_named state.Waiting at item old new answer there n s =
      rw s.1 (put_named old at item (record item { ready = false }) there refl (λ number. refl) (each_at (ItemIsNamed names source old.slots) old.items at item n.each there).asked n)

  pub publish_named : (at : ℕ) (item : Item W) (batch : List IoRequest) (old new : Live W S) → LiveFits source old → slice_get old.items at ≡ Some item → AskAsNamed names item (fetches item.owner batch)
      → IsNamed names source old → Publishes source at item batch old new → IsNamed names source new
  publish_named at item batch old new fits there targets n p =
      let slot' : Slot S = record p.slot { source = p.after } in
      let slots' = set old.slots item.root.0 slot' in
      let now : Item W = published item batch in
      let given = p.submits.accounts in
      let Old : Item W → Type 0 = ItemIsNamed names source old.slots in
      let New : Item W → Type 0 = ItemIsNamed names source slots' in
      let Others : Item W → Type 0 = λ other. other.owner.0 ≢ item.owner.0 in
      let Before : Fetch → Type 0 = λ fetch. fetch.owner.0 < old.next_owner in
      let Given : Slot S → Type 0 = λ s. AllByRecursion Before (source.outstanding s.source) in
      let more : (other : Item W) → AskAsNamed names other (fetches item.owner batch) → Old other → AllByRecursion (λ (s : Slot S). AskAsNamed names other (source.outstanding s.source)) slots' = λ other theirs m.
      let Asked : Slot S → Type 0 = λ s. AskAsNamed names other (source.outstanding s.source) in
      each_set Asked old.slots item.root.0 slot' m.outstanding (rw given (each_append (asks_so names other) (source.outstanding p.slot.source) (fetches item.owner batch) (each_at Asked old.slots item.root.0 p.slot m.outstanding p.there) theirs)) in
      let mine = each_at Old old.items at item n.each there in
      let fit = each_at (ItemFits source old.slots old.next_owner) old.items at item fits.each there in
      rw p.now (record {
        each = each_set_of_removed New old.items at now
            (each_both Others Old New (remove old.items at) (λ other differs m. record { asked = m.asked; outstanding = more other (foreign names item other batch differs) m })
            (others old.items at item fits.rising there) (each_remove Old old.items at n.each))
            (record { asked = each_append (asks_so names item) item.asked (fetches item.owner batch) mine.asked targets; outstanding = more item targets mine });
        given = each_set Given old.slots item.root.0 slot' n.given
            (rw given (each_append Before (source.outstanding p.slot.source) (fetches item.owner batch) (each_at Given old.slots item.root.0 p.slot n.given p.there) (below item.owner old.next_owner batch fit.owner)));
      })

  pub spawn_named : (at : ℕ) (item : Item W) (scope : WorkScope) (work : W) (old new : Live W S) → slice_get old.items at ≡ Some item → IsNamed names source old → Spawns at item scope work old new → IsNamed names source new
  spawn_named at item scope work old new there n p =
      let now : Item W = record item { next = item.next + 1 } in
      let child : Item W = child_of item old.next_owner scope work in
      let Named = ItemIsNamed names source old.slots in
      let mine = each_at Named old.items at item n.each there in
      let Before : Fetch → Type 0 = λ fetch. fetch.owner.0 < old.next_owner in
      let After : Fetch → Type 0 = λ fetch. fetch.owner.0 < old.next_owner + 1 in
      rw p.now (record {
        each = each_push Named (set old.items at now) child (each_set Named old.items at now n.each (again old.slots item now refl (λ number. refl) mine.asked mine))
            (record {
              asked = tt;
              outstanding = each_weaker (λ (s : Slot S). AllByRecursion Before (source.outstanding s.source)) (λ (s : Slot S). AskAsNamed names child (source.outstanding s.source)) old.slots
                  (λ s h. each_weaker Before (asks_so names child) (source.outstanding s.source) (λ x less own. absurd (let same : x.owner.0 ≡ old.next_owner = ap (λ (o : IoOwnerId). o.0) own in omega (arith, less, same))) h) n.given;
            });
        given = each_weaker (λ (s : Slot S). AllByRecursion Before (source.outstanding s.source)) (λ (s : Slot S). AllByRecursion After (source.outstanding s.source)) old.slots
            (λ s h. each_weaker Before After (source.outstanding s.source) (λ x less. omega (arith, less)) h) n.given;
      })

  -- a root joins, whose source has nothing outstanding
  pub admit_named : (items : List (Item W)) (slots : List (Slot S)) (owners : ℕ) (slot : Slot S) (item : Item W) → source.outstanding slot.source ≡ [] → item.asked ≡ [] → item.owner.0 ≡ owners
      → IsNamed names source (live_with items slots owners) → IsNamed names source (live_with (items ++ item ∷ []) (slots ++ slot ∷ []) (owners + 1))
  admit_named items slots owners slot item idle none mine n =
      let Before : Fetch → Type 0 = λ fetch. fetch.owner.0 < owners in
      let After : Fetch → Type 0 = λ fetch. fetch.owner.0 < owners + 1 in
      let Named = ItemIsNamed names source (slots ++ slot ∷ []) in
      let Asked : Item W → Slot S → Type 0 = λ it s. AskAsNamed names it (source.outstanding s.source) in
      record {
        each = each_push Named items item
            (each_weaker (ItemIsNamed names source slots) Named items (λ it m. record { asked = m.asked; outstanding = each_push (Asked it) slots slot m.outstanding (rw idle tt) }) n.each)
            (record {
              asked = rw none tt;
              outstanding = each_push (Asked item) slots slot
                  (each_weaker (λ (s : Slot S). AllByRecursion Before (source.outstanding s.source)) (Asked item) slots
                  (λ s h. each_weaker Before (asks_so names item) (source.outstanding s.source) (λ x less own. absurd (let same : x.owner.0 ≡ item.owner.0 = ap (λ (o : IoOwnerId). o.0) own in omega (arith, less, same, mine))) h) n.given)
                  (rw idle tt);
            });
        given = each_push (λ (s : Slot S). AllByRecursion After (source.outstanding s.source)) slots slot
            (each_weaker (λ (s : Slot S). AllByRecursion Before (source.outstanding s.source)) (λ (s : Slot S). AllByRecursion After (source.outstanding s.source)) slots
            (λ s h. each_weaker Before After (source.outstanding s.source) (λ x less. omega (arith, less)) h) n.given) (rw idle tt);
      }

  cancels_named : (root : RootId) (slot : Slot S) (old new : Live W S) → slice_get old.slots root.0 ≡ Some slot → Cancels source root slot old new → IsNamed names source old → IsNamed names source new
  cancels_named root slot old new there c n =
      let slot' : Slot S = record { source = c.after; live = false } in
      let Named = ItemIsNamed names source old.slots in
      rw c.now (less_named (filter (λ item. not (is_of_root root item)) old.items) old.slots old.next_owner root.0 slot slot' there (λ Q q. rw c.clears.accounts tt)
      (record { each = each_filter Named Named (λ item. not (is_of_root root item)) old.items (λ x e m. m) n.each; given = n.given }))

  pub cancel_named : (root : RootId) (found : Option (Slot S)) (old new : Live W S) → slice_get old.slots root.0 ≡ found → CancelsLive source root found old new → IsNamed names source old → IsNamed names source new
  cancel_named root None old new there c n = rw c n
  cancel_named root (Some slot) old new there c n =
      elim slot.live as (λ b. slot.live ≡ b → IsNamed names source new) [ true ↦ λ e. cancels_named root slot old new there (c.0 e) n | false ↦ λ e. rw (c.1 e) n ] refl

module _ {W S C E : Type 0} (works : Works W C E) (source : Ghosts S C) where
  follow_named : (out : Output W) (at : ℕ) (item : Item W) (old new : Live W S) (answer : Visited) → LiveFits source old → slice_get old.items at ≡ Some item → ((batch : List IoRequest) → out ≡ output.NeedsIO batch → AskAsNamed works.names item (fetches item.owner batch))
      → IsNamed works.names source old → Follows works source out at item old new answer → IsNamed works.names source new
  follow_named output.Done at item old new answer fits there targets n h = retire_named works.names source at item old new answer n h
  follow_named output.Continue at item old new answer fits there targets n h = rw h.0 n
  follow_named (output.NeedsIO batch) at item old new answer fits there targets n h =
      let p = h.1 in
      let there' : slice_get h.0.items at ≡ Some (published item batch) = rw (ap (λ (l : Live W S). l.items) p.now) (get_set old.items at item (published item batch) there) in
      settle_named works.names source (works.state_is item.work) at (published item batch) h.0 new answer there' (publish_named works.names source at item batch old h.0 fits there (targets batch refl) n p) h.2
  follow_named (output.Child scope work) at item old new answer fits there targets n h = spawn_named works.names source at item scope work old new there n h.0
  follow_named (output.Batch array) at item old new answer fits there targets n h = rw h.1 n

  pub visit_named : ((old : W) (batch : List IoRequest) (new : W) → works.computes old (Ok (output.NeedsIO batch)) new → NamesTargets (works.names old) batch)
      → (shown : State) (at : ℕ) (item : Item W) (old new : Live W S) (answer : Visited) → LiveFits source old → slice_get old.items at ≡ Some item → IsNamed works.names source old → Visits works source shown at item old new answer → IsNamed works.names source new
  visit_named publishes state.Done at item old new answer fits there n h = settle_named works.names source state.Done at item old new answer there n h
  visit_named publishes state.Waiting at item old new answer fits there n h = settle_named works.names source state.Waiting at item old new answer there n h
  visit_named publishes state.NeedsCompute at item old new answer fits there n h =
      let now : Item W = computed item h.1 in
      let f = each_at (ItemFits source old.slots old.next_owner) old.items at item fits.each there in
      let mine = each_at (ItemIsNamed works.names source old.slots) old.items at item n.each there in
      let one : ItemFits source old.slots old.next_owner now = record { slot = f.slot; there = f.there; live = f.live; kept = f.kept; own = f.own; distinct = f.distinct; owner = f.owner; next = f.next; parked = f.parked } in
      let fits' = item_set source old at item now fits there refl one in
      follow_named h.0 at now (put at now old) new answer fits' (get_set old.items at item now there)
      (λ batch e. own_targets works.names item now batch h.2.names (publishes item.work batch h.1 (subst (λ out. works.computes item.work (Ok out) h.1) e h.2.computes)))
      (put_named works.names source old at item now there refl h.2.names mine.asked n) h.3

  delivers_named : (root : RootId) (completion : Completion C) (items items' : List (Item W)) (slots : List (Slot S)) (owners : ℕ) → IsNamed works.names source (live_with items slots owners)
      → Delivers works root completion items items' → IsNamed works.names source (live_with items' slots owners)
  delivers_named root completion items items' slots owners n d =
      let mine = each_at (ItemIsNamed works.names source slots) items d.at d.item n.each d.there in
      rw d.now (put_named works.names source (live_with items slots owners) d.at d.item (handed works d.item d.left d.work) d.there refl d.hands.names
      (each_fewer (asks_so works.names d.item) completion.owner completion.request d.item.asked d.left d.hands.entry d.hands.taken mine.asked) n)

  -- what is delivered from elsewhere leaves the sources as they are
  pub complete_named : (root : RootId) (completion : Completion C) (items items' : List (Item W)) (slots : List (Slot S)) (owners : ℕ) → IsNamed works.names source (live_with items slots owners)
      → Delivers works root completion items items' → IsNamed works.names source (live_with items' slots owners)
  complete_named root completion items items' slots owners n d = delivers_named root completion items items' slots owners n d

  completed_less : {V : Type 0} (means : C → V) (before now : ℕ) (slot : Slot S) (after : S) (completion : Completion C)
      → Completes means (source.content slot.source) (source.outstanding slot.source) (source.outstanding after) before now completion → IsLess (source.outstanding slot.source) (source.outstanding after)
  completed_less {V} means before now slot after completion c Q a =
      ⊎_elim (λ (one : TakesOne means (source.content slot.source) (source.outstanding slot.source) (source.outstanding after) before now completion).
      each_fewer Q completion.owner completion.request (source.outstanding slot.source) (source.outstanding after) one.entry one.taken a)
      (λ (none : TakesNone (source.outstanding slot.source) (source.outstanding after) before now completion). rw none.same a) c

  pub asks_named : (payload : Meanings C) (root : RootId) (answer : Option (Completion C)) (old new : Live W S) → IsNamed works.names source old → Asks works source payload root answer old new → IsNamed works.names source new
  asks_named payload root None old new n a =
      let slot' : Slot S = record a.slot { source = a.after } in
      let e : new ≡ live_with old.items (set old.slots root.0 slot') old.next_owner = a.now ∙ ap (λ z. live_with z (set old.slots root.0 slot') old.next_owner) a.delivers in
      rw e (less_named works.names source old.items old.slots old.next_owner root.0 a.slot slot' a.there (λ Q q. rw a.polls.accounts q) n)
  asks_named payload root (Some completion) old new n a =
      let slot' : Slot S = record a.slot { source = a.after } in
      subst (λ (z : Live W S). IsNamed works.names source z) (sym a.now) (less_named works.names source new.items old.slots old.next_owner root.0 a.slot slot' a.there
      (completed_less payload.means (source.lies a.slot.source) (source.lies a.after) a.slot a.after completion a.polls.accounts)
      (delivers_named root completion old.items new.items old.slots old.next_owner n a.delivers))

  pub waits_named : (payload : Meanings C) (root : RootId) (old new : Live W S) → IsNamed works.names source old → WaitsFor works source payload root old new → IsNamed works.names source new
  waits_named payload root old new n a =
      let slot' : Slot S = record a.slot { source = a.after } in
      subst (λ (z : Live W S). IsNamed works.names source z) (sym a.now) (less_named works.names source new.items old.slots old.next_owner root.0 a.slot slot' a.there
      (completed_less payload.means (source.lies a.slot.source) (source.lies a.after) a.slot a.after a.completion a.waits.accounts)
      (delivers_named root a.completion old.items new.items old.slots old.next_owner n a.delivers))
