-- An item that leaves, and one that publishes, from what their parts did.
use Rattle.std.proofs.Common.{◌≡◌, ◌≢◌, ◌<◌, ℕ, List, [], sym, subst, ◌∙◌, ap, Bool, true, false, ◌&&◌, cond, Some, Ok, Err, inl, inr, ◌⊎◌, ⊎_elim, length, slice_index_or}
use Rattle.std.specs.Prelude.{slice_get}
use Rattle.std.specs.List.{remove}
use Rattle.std.proofs.Math.ListN.{set}
use Rattle.std.proofs.lemmas.Option.{get_or_from_slice_get}
use Rattle.vortex_io.specs.declared.request.IoRequest.{IoRequest}
use Rattle.vortex_io.specs.declared.request.IoError.{IoError}
use Rattle.vortex_io.specs.declared.request.IoError.TheVariants as cause
use Rattle.vortex_io.specs.declared.source.IoSource.{Ghosts}
use Rattle.vortex_scan.specs.declared.errors.RunError.{RunError}
use Rattle.vortex_scan.specs.declared.errors.RunError.TheVariants as error
use Rattle.vortex_scan.specs.declared.errors.Visited.{Visited}
use Rattle.vortex_scan.specs.declared.errors.Visited.TheVariants.{Went, RootDone}
use Rattle.vortex_scan.specs.declared.item.Item.{Item}
use Rattle.vortex_scan.specs.declared.item.Slot.{Slot}
use Rattle.vortex_scan.specs.Fails.{IsGiven, SubmitFaults}
use Rattle.vortex_scan.specs.Fetching.{numbers}
use Rattle.vortex_scan.specs.Numbers.{repeats}
use Rattle.vortex_scan.specs.RunState.{Live, has_root, live_with}
use Rattle.vortex_scan.specs.Sources.{Releases, Submits}
use Rattle.vortex_scan.specs.Steps.{ClearsLast, Publishes, Retires, published}
use Rattle.vortex_scan.proofs.Places.{get_set, some_at}

pub retired : {W S C : Type 0} (source : Ghosts S C) (at owners : ℕ) (item r : Item W) (items items' : List (Item W)) (slots : List (Slot S)) (slot slot' : Slot S) (released : S) (others : Bool) (answer : Visited)
    → r ≡ item → items' ≡ remove items at → others ≡ has_root r.root items' → slice_get slots r.root.0 ≡ Some slot
    → Releases source r.owner slot.source released → ClearsLast source others released slot'.source → slot'.live ≡ (others && slot.live) → answer ≡ cond others Went (RootDone r.root)
    → Retires source at item (live_with items slots owners) (live_with items' (set slots r.root.0 slot') owners) answer
retired {W} {S} source at owners item r items items' slots slot slot' released others answer same left know there releases clears live answers =
    let e : others ≡ has_root r.root (remove items at) = know ∙ ap (has_root r.root) left in
    let s : slot' ≡ record { source = slot'.source; live = has_root r.root (remove items at) && slot.live } =
    ap (λ (b : Bool). let t : Slot S = record { source = slot'.source; live = b } in t) (live ∙ ap (λ b. b && slot.live) e) in
    subst (λ (x : Item W). Retires source at x (live_with items slots owners) (live_with items' (set slots r.root.0 slot') owners) answer) same
    (record {
      slot = slot;
      there = there;
      released = released;
      releases = releases;
      after = slot'.source;
      clears = subst (λ (b : Bool). ClearsLast source b released slot'.source) e clears;
      now = ap (λ z. live_with z (set slots r.root.0 slot') owners) left ∙ ap (λ z. live_with (remove items at) (set slots r.root.0 z) owners) s;
      answers = answers ∙ ap (λ b. cond b Went (RootDone r.root)) e;
    })

-- what was noted, as it is read back
pub read_published : {W : Type 0} (at : ℕ) (item : Item W) (items items' : List (Item W)) (batch : List IoRequest) (r : Item W) → slice_get items at ≡ Some item → items' ≡ set items at (published item batch) → r ≡ slice_index_or items' at r
    → r ≡ published item batch
read_published at item items items' batch r there noted read =
    let there' : slice_get items' at ≡ Some (published item batch) = rw noted (get_set items at item (published item batch) there) in
    read ∙ get_or_from_slice_get items' at (published item batch) r there'

pub known_root : {W : Type 0} (at : ℕ) (item : Item W) (items items' : List (Item W)) (batch : List IoRequest) (r : Item W) (roots : ℕ) → slice_get items at ≡ Some item → items' ≡ set items at (published item batch) → r ≡ slice_index_or items' at r
    → item.root.0 < roots → r.root.0 < roots
known_root {W} at item items items' batch r roots there noted read known =
    subst (λ (x : Item W). x.root.0 < roots) (sym (read_published at item items items' batch r there noted read)) known

module _ {W S C : Type 0} (source : Ghosts S C) (at owners : ℕ) (item r : Item W) (batch : List IoRequest) (items items' : List (Item W)) (slots slots' : List (Slot S)) (same : r ≡ published item batch) (known : item.root.0 < length slots) where
  pub publishes : batch ≢ [] → items' ≡ set items at (published item batch) → repeats (numbers (published item batch).asked) ≡ false
      → ((slot : Slot S) → slice_get slots r.root.0 ≡ Some slot → (after : S) × Submits source r.owner batch (Ok tt) slot.source after × (slots' ≡ set slots r.root.0 (record slot { source = after })))
      → Publishes source at item batch (live_with items slots owners) (live_with items' slots' owners)
  publishes some noted fresh submits =
      let s = some_at slots item.root.0 known in
      let did = subst (λ (x : Item W). (slot : Slot S) → slice_get slots x.root.0 ≡ Some slot → (after : S) × Submits source x.owner batch (Ok tt) slot.source after × (slots' ≡ set slots x.root.0 (record slot { source = after }))) same submits s.0 s.1 in
      record {
        some = some;
        fresh = fresh;
        slot = s.0;
        there = s.1;
        after = did.0;
        submits = did.1;
        now = ap (λ z. live_with z slots' owners) noted ∙ ap (λ z. live_with (set items at (published item batch)) z owners) did.2;
      }

  pub submit_faults : {E : Type 0} (why : RunError E)
      → (why ≡ error.OutOfMemory) ⊎ ((why ≡ error.Source r.root) × ((slot : Slot S) → slice_get slots r.root.0 ≡ Some slot → (after : S) × Submits source r.owner batch (Err cause.Fault) slot.source after × (slots' ≡ set slots r.root.0 (record slot { source = after }))))
      → (why ≡ error.OutOfMemory) ⊎ (((why ≡ error.EmptyIo) × (batch ≡ [])) ⊎ (((why ≡ error.Republished) × (repeats (numbers (published item batch).asked) ≡ true))
      ⊎ ((why ≡ error.Source item.root) × SubmitFaults source item batch (live_with items slots owners) (live_with items' slots' owners))))
  submit_faults why fails =
      ⊎_elim (λ memory. inl memory)
      (λ f.
      let s = some_at slots item.root.0 known in
      let did = subst (λ (x : Item W). (slot : Slot S) → slice_get slots x.root.0 ≡ Some slot → (after : S) × Submits source x.owner batch (Err cause.Fault) slot.source after × (slots' ≡ set slots x.root.0 (record slot { source = after }))) same f.1 s.0 s.1 in
      inr (inr (inr (f.0 ∙ ap (λ (x : Item W). error.Source x.root) same, record { slot = s.0; there = s.1; after = did.0; submits = did.1; now = did.2 })))) fails

module _ {W S C : Type 0} (source : Ghosts S C) (at : ℕ) (item : Item W) (batch : List IoRequest) where
  pub items_published : {items items' : List (Item W)} {slots slots' : List (Slot S)} {owners : ℕ} → Publishes source at item batch (live_with items slots owners) (live_with items' slots' owners) → items' ≡ set items at (published item batch)
  items_published p = ap (λ (l : Live W S). l.items) p.now

  pub there_published : {items items' : List (Item W)} {slots slots' : List (Slot S)} {owners : ℕ} → slice_get items at ≡ Some item → Publishes source at item batch (live_with items slots owners) (live_with items' slots' owners)
      → slice_get items' at ≡ Some (published item batch)
  there_published {items} there p = rw (items_published p) (get_set items at item (published item batch) there)

-- a batch that was refused, and one that was taken, were given
pub given_in_vain : {W S C : Type 0} (source : Ghosts S C) (item r : Item W) (batch : List IoRequest) (slots slots' : List (Slot S)) → r ≡ published item batch → item.root.0 < length slots
    → ((slot : Slot S) → slice_get slots r.root.0 ≡ Some slot → (reason : IoError) × (after : S) × Submits source r.owner batch (Err reason) slot.source after × (slots' ≡ set slots r.root.0 (record slot { source = after })))
    → IsGiven source item batch slots slots'
given_in_vain {W} {S} {C} source item r batch slots slots' same known given =
    let s = some_at slots item.root.0 known in
    let did = subst (λ (x : Item W). (slot : Slot S) → slice_get slots x.root.0 ≡ Some slot → (reason : IoError) × (after : S) × Submits source x.owner batch (Err reason) slot.source after × (slots' ≡ set slots x.root.0 (record slot { source = after }))) same given s.0 s.1 in
    record { slot = s.0; there = s.1; answer = Err did.0; after = did.1; submits = did.2; now = did.3 }

pub given_once : {W S C : Type 0} (source : Ghosts S C) (at : ℕ) (item : Item W) (batch : List IoRequest) (items items' : List (Item W)) (slots slots' : List (Slot S)) (owners : ℕ) → Publishes source at item batch (live_with items slots owners) (live_with items' slots' owners)
    → IsGiven source item batch slots slots'
given_once {W} {S} source at item batch items items' slots slots' owners p =
    record { slot = p.slot; there = p.there; answer = Ok tt; after = p.after; submits = p.submits; now = ap (λ (l : Live W S). l.slots) p.now }
