-- Orderly runs stay orderly, and work off what they have to do, step by step.
use Rattle.std.proofs.Common.{◌≡◌, ◌≢◌, ℕ, zero, suc, ◌+◌, ◌<◌, ◌≤◌, List, [], ◌∷◌, ◌++◌, refl, sym, ◌∙◌, ap, subst, Bool, true, false, cond, not, ◌||◌, Option, None, Some, arith, filter, map, IsTrue}
use Rattle.std.specs.Prelude.{slice_get, eqb}
use Rattle.std.specs.List.{AllByRecursion, list_any, remove}
use Rattle.std.proofs.Math.ListN.{set}
use Rattle.std.proofs.lemmas.Bool.{eqb-true}
use Rattle.std.proofs.lemmas.Bool.Decides.{nat_tests}
use Rattle.std.proofs.lemmas.List.{map-append}
use Rattle.std.proofs.lemmas.List.Sums.{sum_by_push}
use Rattle.vortex_io.specs.Source.{fetch_of, is_fetch, is_of_kind}
use Rattle.vortex_io.specs.declared.ids.IoOwnerId.{IoOwnerId}
use Rattle.vortex_io.specs.declared.ids.IoRequestId.{IoRequestId}
use Rattle.vortex_io.specs.declared.payload.Payload.{Ghosts as Meanings}
use Rattle.vortex_io.specs.declared.request.Completion.{Completion}
use Rattle.vortex_io.specs.declared.request.Fetch.{Fetch}
use Rattle.vortex_io.specs.declared.request.IoRequest.{IoRequest}
use Rattle.vortex_io.specs.declared.source.IoSource.{Ghosts}
use Rattle.vortex_scan_types.specs.declared.batch.Batch.{Batch}
use Rattle.vortex_scan.specs.declared.errors.Visited.{Visited}
use Rattle.vortex_scan.specs.declared.item.Item.{Item}
use Rattle.vortex_scan_types.specs.declared.place.RootId.{RootId}
use Rattle.vortex_scan.specs.declared.state.Output.{Output}
use Rattle.vortex_scan.specs.declared.state.Output.TheVariants as output
use Rattle.vortex_scan.specs.declared.state.State.{State}
use Rattle.vortex_scan.specs.declared.state.State.TheVariants as state
use Rattle.vortex_scan.specs.declared.worker.Worker.{Ghosts as Works}
use Rattle.vortex_scan.specs.Fetching.{numbers}
use Rattle.vortex_scan.specs.Fits.{ItemFits, LiveFits}
use Rattle.vortex_scan.specs.InOrder.{IsOrderly, ItemIsOrderly, as_fetches, work_left}
use Rattle.vortex_scan.specs.Keys.{IsLeastReady}
use Rattle.vortex_scan.specs.Numbers.{repeats}
use Rattle.vortex_scan.specs.Orderly.{has_number, is_other}
use Rattle.vortex_scan.specs.RunState.{Live, put}
use Rattle.vortex_scan.specs.Steps.{Asks, Delivers, Follows, Hands, Retires, Settles, Visits, child_of, computed, handed, is_waiting, published}
use Rattle.vortex_scan.proofs.Asked.{asks_fits}
use Rattle.vortex_scan.proofs.Chains.{Carried, came_batches}
use Rattle.vortex_scan.proofs.Ordering.{OutputGoesOn, WorkIsOrderly}
use Rattle.vortex_scan.proofs.Places.{each_at, each_push, each_remove, each_set, each_set_of_removed, each_weaker, get_set, remove_set}
use Rattle.vortex_scan.proofs.Rooted.{eqb_same}
use Rattle.vortex_scan.proofs.Tallies.{removed_sum, set_sum}
use Rattle.vortex_scan.proofs.Visiting.{visit_fits}

-- Requests with a number, among requests as fetches.

neither : (a b : Bool) → (a || b) ≡ false → (a ≡ false) × (b ≡ false)
neither true b e = absurd (cc)
neither false b e = (refl, e)

differ : (a b : ℕ) → eqb a b ≡ false → eqb b a ≡ false
differ a b e = grind (arith, nat_tests)

others_only : (owner : IoOwnerId) (requests : List IoRequest) (number : IoRequestId) → list_any (eqb number.0) (numbers (as_fetches owner requests)) ≡ false
    → (filter (has_number number) requests ≡ []) × (filter (is_other number) requests ≡ requests)
others_only owner [] number none = (refl, refl)
others_only owner (r ∷ rs) number none =
    let parts = neither (eqb number.0 r.request.0) (list_any (eqb number.0) (numbers (as_fetches owner rs))) none in
    let ne = differ number.0 r.request.0 parts.0 in
    let rest = others_only owner rs number parts.1 in (
      ap (λ b. cond b (r ∷ filter (has_number number) rs) (filter (has_number number) rs)) ne ∙ rest.0,
      ap (λ b. cond (not b) (r ∷ filter (is_other number) rs) (filter (is_other number) rs)) ne ∙ ap (λ z. r ∷ z) rest.1,
    )

-- the request whose fetch is taken, and what is left
abbrev pub IsSplit : IoOwnerId → List IoRequest → List Fetch → Fetch → IoRequestId → Type 0
IsSplit owner requests left entry number =
    (request : IoRequest) × (filter (has_number number) requests ≡ request ∷ []) × (fetch_of owner request ≡ entry) × (left ≡ as_fetches owner (filter (is_other number) requests))

pub split : (owner : IoOwnerId) (requests : List IoRequest) (before behind : List Fetch) (entry : Fetch) → as_fetches owner requests ≡ before ++ entry ∷ behind → repeats (numbers (as_fetches owner requests)) ≡ false
    → IsSplit owner requests (before ++ behind) entry entry.request
split owner [] [] behind entry e d = absurd (cc)
split owner [] (b ∷ bs) behind entry e d = absurd (cc)
split owner (r ∷ rs) [] behind entry e d =
    let head : fetch_of owner r ≡ entry = cc in
    let tail : as_fetches owner rs ≡ behind = cc in
    let parts = neither (list_any (eqb r.request.0) (numbers (as_fetches owner rs))) (repeats (numbers (as_fetches owner rs))) d in
    let o = others_only owner rs r.request parts.0 in
    let mine = eqb_same r.request.0 in
    let one : filter (has_number r.request) (r ∷ rs) ≡ r ∷ [] = ap (λ b. cond b (r ∷ filter (has_number r.request) rs) (filter (has_number r.request) rs)) mine ∙ ap (λ z. r ∷ z) o.0 in
    let rest : filter (is_other r.request) (r ∷ rs) ≡ rs = ap (λ b. cond (not b) (r ∷ filter (is_other r.request) rs) (filter (is_other r.request) rs)) mine ∙ o.1 in
    subst (λ number. IsSplit owner (r ∷ rs) behind entry number) (ap (λ (f : Fetch). f.request) head) (r, one, head, sym tail ∙ ap (as_fetches owner) (sym rest))
split owner (r ∷ rs) (b ∷ bs) behind entry e d =
    let head : fetch_of owner r ≡ b = cc in
    let tail : as_fetches owner rs ≡ bs ++ entry ∷ behind = cc in
    let parts = neither (list_any (eqb r.request.0) (numbers (as_fetches owner rs))) (repeats (numbers (as_fetches owner rs))) d in
    let o = others_only owner rs r.request parts.0 in
    let deep = split owner rs bs behind entry tail parts.1 in
    elim (eqb r.request.0 entry.request.0) as (λ t. eqb r.request.0 entry.request.0 ≡ t → IsSplit owner (r ∷ rs) (b ∷ bs ++ behind) entry entry.request) [
      | true ↦ λ t.
          let same : r.request.0 ≡ entry.request.0 = eqb-true _ _ t in
          let number : r.request ≡ entry.request = λ i. record { 0 = same i } in
          absurd (let none : filter (has_number entry.request) rs ≡ [] = subst (λ n. filter (has_number n) rs ≡ []) number o.0 in let some = deep.1 in cc)
      | false ↦ λ t. (
        deep.0,
        ap (λ b. cond b (r ∷ filter (has_number entry.request) rs) (filter (has_number entry.request) rs)) t ∙ deep.1,
        deep.2,
        ap (λ z. b ∷ z) deep.3 ∙ ap (λ z. z ∷ as_fetches owner (filter (is_other entry.request) rs)) (sym head)
            ∙ ap (as_fetches owner) (sym (ap (λ b. cond (not b) (r ∷ filter (is_other entry.request) rs) (filter (is_other entry.request) rs)) t)),
      )
    ] refl

-- what holds of the other items and of one item holds of all
each_back : {A : Type 0} (Q : A → Type 0) (xs : List A) (i : ℕ) (x : A) → slice_get xs i ≡ Some x → AllByRecursion Q (remove xs i) → Q x → AllByRecursion Q xs
each_back Q [] i x there others one = tt
each_back Q (y ∷ ys) zero x there others one = let same : x ≡ y = cc in (subst Q same one, others)
each_back Q (y ∷ ys) (suc i) x there others one = (others.0, each_back Q ys i x there others.1 one)

module _ {W C E V : Type 0} (means : C → V) (works : Works W C E) (laws : WorkIsOrderly means works) where
  abbrev left_in : List (Item W) → ℕ
  left_in items = work_left works items

  -- an item that is handed a result
  pub handed_orderly : (completion : Completion C) (item : Item W) (left : List Fetch) (work : W) → ItemIsOrderly works item → repeats (numbers item.asked) ≡ false → (hands : Hands works completion item left work)
      → ItemIsOrderly works (handed works item left work) × (works.work work ≤ works.work item.work)
  handed_orderly completion item left work o distinct hands =
      let t = hands.taken in
      let s = split item.owner (works.asked item.work) t.before t.behind hands.entry (sym o.asked ∙ t.stood) (subst (λ list. repeats (numbers list) ≡ false) o.asked distinct) in
      let one : filter (has_number completion.request) (works.asked item.work) ≡ s.0 ∷ [] = subst (λ number. filter (has_number number) (works.asked item.work) ≡ s.0 ∷ []) t.number s.1 in
      let rest : t.before ++ t.behind ≡ as_fetches item.owner (filter (is_other completion.request) (works.asked item.work)) =
      subst (λ number. t.before ++ t.behind ≡ as_fetches item.owner (filter (is_other number) (works.asked item.work))) t.number s.3 in
      let target = ap (λ (f : Fetch). f.target) s.2 in
      let kind : IsTrue (is_of_kind s.0.target completion.result) = subst (λ z. IsTrue (is_of_kind z completion.result)) (sym target) hands.kind in
      let d = laws.delivers item.work completion.request s.0 completion.result work o.orderly one kind hands.takes in
      let acts : (item.ready || not (is_waiting (works.state_is work))) ≡ true → works.state_is work ≢ state.Waiting =
      elim item.ready as (λ b. item.ready ≡ b → (b || not (is_waiting (works.state_is work))) ≡ true → works.state_is work ≢ state.Waiting) [
        | true ↦ λ ready e. d.3 (o.acts ready)
        | false ↦ λ ready e w. let k : is_waiting (works.state_is work) ≡ true = ap is_waiting w in let m : false ≡ true = subst (λ b. not b ≡ true) k e in cc
      ] refl in
      (record { orderly = d.0; asked = t.left ∙ rest ∙ ap (as_fetches item.owner) (sym d.1); acts = acts }, d.2)

  pub delivers_orderly : (root : RootId) (completion : Completion C) (items items' : List (Item W)) → AllByRecursion (ItemIsOrderly works) items → AllByRecursion (λ (item : Item W). repeats (numbers item.asked) ≡ false) items → Delivers works root completion items items'
      → AllByRecursion (ItemIsOrderly works) items' × (left_in items' ≤ left_in items)
  delivers_orderly root completion items items' each distinct d =
      let o = each_at (ItemIsOrderly works) items d.at d.item each d.there in
      let h = handed_orderly completion d.item d.left d.work o (each_at (λ (item : Item W). repeats (numbers item.asked) ≡ false) items d.at d.item distinct d.there) d.hands in
      let now : Item W = handed works d.item d.left d.work in
      let sums = set_sum (λ (item : Item W). works.work item.work) items d.at d.item now d.there in
      let less = h.1 in
      let is = ap left_in d.now in
      (rw d.now (each_set (ItemIsOrderly works) items d.at now each h.0), omega (arith, sums, less, is))

  module _ {S : Type 0} (source : Ghosts S C) where
    retire_orderly : (at : ℕ) (item : Item W) (old new : Live W S) (answer : Visited) → slice_get old.items at ≡ Some item → AllByRecursion (ItemIsOrderly works) (remove old.items at) → Retires source at item old new answer
        → IsOrderly works new × (left_in new.items + works.work item.work ≡ left_in old.items) × (new.next_owner ≡ old.next_owner)
    retire_orderly at item old new answer there others r =
        let is = ap (λ (l : Live W S). left_in l.items) r.now in
        let sums = removed_sum (λ (item : Item W). works.work item.work) old.items at item there in
        (rw r.now others, omega (arith, is, sums), ap (λ (l : Live W S). l.next_owner) r.now)

    settle_orderly : (shown : State) (at : ℕ) (item : Item W) (old new : Live W S) (answer : Visited) → works.state_is item.work ≡ shown → slice_get old.items at ≡ Some item → AllByRecursion (ItemIsOrderly works) (remove old.items at)
        → works.orderly item.work → item.asked ≡ as_fetches item.owner (works.asked item.work) → Settles source shown at item old new answer
        → IsOrderly works new × (left_in new.items ≤ left_in old.items) × (new.next_owner ≡ old.next_owner)
    settle_orderly state.Done at item old new answer shows there others orderly asked s =
        let r = retire_orderly at item old new answer there others s in let sums = r.1 in (r.0, omega (arith, sums), r.2)
    settle_orderly state.NeedsCompute at item old new answer shows there others orderly asked s =
        let one : ItemIsOrderly works item = record { orderly = orderly; asked = asked; acts = λ ready w. absurd (cc) } in
        let is = ap (λ (l : Live W S). left_in l.items) s.0 in
        (rw s.0 (each_back (ItemIsOrderly works) old.items at item there others one), omega (arith, is), ap (λ (l : Live W S). l.next_owner) s.0)
    settle_orderly state.Waiting at item old new answer shows there others orderly asked s =
        let now : Item W = record item { ready = false } in
        let one : ItemIsOrderly works now = record { orderly = orderly; asked = asked; acts = λ ready w. absurd (cc) } in
        let is = ap (λ (l : Live W S). left_in l.items) s.1 in
        let sums = set_sum (λ (item : Item W). works.work item.work) old.items at item now there in
        (rw s.1 (each_set_of_removed (ItemIsOrderly works) old.items at now others one), omega (arith, is, sums), ap (λ (l : Live W S). l.next_owner) s.1)

    -- what an item's answer leads to; the item stands as its computation left it, and had this asked and this work before
    follow_orderly : (out : Output W) (at : ℕ) (item : Item W) (asked : List IoRequest) (left : ℕ) (old new : Live W S) (answer : Visited) → slice_get old.items at ≡ Some item → AllByRecursion (ItemIsOrderly works) (remove old.items at)
        → works.orderly item.work → item.asked ≡ as_fetches item.owner asked → 0 < left → OutputGoesOn works out asked (works.asked item.work) left (works.work item.work) (works.state_is item.work) → Follows works source out at item old new answer
        → IsOrderly works new × (left_in new.items + 1 + works.work item.work ≤ left_in old.items + left) × (new.next_owner + left_in new.items + works.work item.work ≤ old.next_owner + left_in old.items + left)
    follow_orderly output.Done at item asked left old new answer there others orderly own some g h =
        let r = retire_orderly at item old new answer there others h in
        let sums = r.1 in
        let same = r.2 in
        (r.0, omega (arith, sums, some), omega (arith, sums, some, same))
    follow_orderly output.Continue at item asked left old new answer there others orderly own some g h =
        let one : ItemIsOrderly works item = record { orderly = orderly; asked = own ∙ ap (as_fetches item.owner) (sym g.0); acts = λ ready. g.2 } in
        let is = ap (λ (l : Live W S). left_in l.items) h.0 in
        let same = ap (λ (l : Live W S). l.next_owner) h.0 in
        let less = g.1 in
        (rw h.0 (each_back (ItemIsOrderly works) old.items at item there others one), omega (arith, is, less), omega (arith, is, same, less))
    follow_orderly (output.NeedsIO batch) at item asked left old new answer there others orderly own some g h =
        let p = h.1 in
        let now : Item W = published item batch in
        let there' : slice_get h.0.items at ≡ Some now = rw (ap (λ (l : Live W S). l.items) p.now) (get_set old.items at item now there) in
        let others' : AllByRecursion (ItemIsOrderly works) (remove h.0.items at) = rw (ap (λ (l : Live W S). l.items) p.now, remove_set old.items at now) others in
        let own' : now.asked ≡ as_fetches now.owner (works.asked now.work) =
        ap (λ list. list ++ map (fetch_of item.owner) (filter is_fetch batch)) own ∙ sym (map-append (fetch_of item.owner) asked (filter is_fetch batch)) ∙ ap (as_fetches item.owner) (sym g.1) in
        let s = settle_orderly (works.state_is item.work) at now h.0 new answer refl there' others' orderly own' h.2 in
        let is = ap (λ (l : Live W S). left_in l.items) p.now in
        let sums = set_sum (λ (item : Item W). works.work item.work) old.items at item now there in
        let same = s.2 ∙ ap (λ (l : Live W S). l.next_owner) p.now in
        let less = g.2 in
        let then = s.1 in
        (s.0, omega (arith, is, sums, less, then), omega (arith, is, sums, same, less, then))
    follow_orderly (output.Child scope work) at item asked left old new answer there others orderly own some g h =
        let p = h.0 in
        let now : Item W = record item { next = item.next + 1 } in
        let child : Item W = child_of item old.next_owner scope work in
        let new_one = g.0 in
        let one : ItemIsOrderly works now = record { orderly = orderly; asked = own ∙ ap (as_fetches item.owner) (sym g.1); acts = λ ready. g.2 } in
        let two : ItemIsOrderly works child = record { orderly = new_one.0; asked = ap (as_fetches child.owner) (sym new_one.1); acts = λ ready. new_one.2 } in
        let is = ap (λ (l : Live W S). left_in l.items) p.now in
        let sums = set_sum (λ (item : Item W). works.work item.work) old.items at item now there in
        let more = sum_by_push (λ (item : Item W). works.work item.work) (set old.items at now) child in
        let same = ap (λ (l : Live W S). l.next_owner) p.now in
        let less = new_one.3 in (
          rw p.now (each_push (ItemIsOrderly works) (set old.items at now) child (each_set_of_removed (ItemIsOrderly works) old.items at now others one) two),
          omega (arith, is, sums, more, less),
          omega (arith, is, sums, more, same, less),
        )
    follow_orderly (output.Batch array) at item asked left old new answer there others orderly own some g h =
        let one : ItemIsOrderly works item = record { orderly = orderly; asked = own ∙ ap (as_fetches item.owner) (sym g.1); acts = λ ready. g.3 } in
        let is = ap (λ (l : Live W S). left_in l.items) h.1 in
        let same = ap (λ (l : Live W S). l.next_owner) h.1 in
        let less = g.2 in
        (rw h.1 (each_back (ItemIsOrderly works) old.items at item there others one), omega (arith, is, less), omega (arith, is, same, less))

    pub visit_orderly : (shown : State) (at : ℕ) (item : Item W) (old new : Live W S) (answer : Visited) → works.state_is item.work ≡ shown → item.ready ≡ true → slice_get old.items at ≡ Some item → IsOrderly works old → Visits works source shown at item old new answer
        → IsOrderly works new × (left_in new.items + 1 ≤ left_in old.items) × (new.next_owner + left_in new.items ≤ old.next_owner + left_in old.items)
    visit_orderly state.Done at item old new answer shows ready there each h =
        let o = each_at (ItemIsOrderly works) old.items at item each there in
        let r = retire_orderly at item old new answer there (each_remove (ItemIsOrderly works) old.items at each) h in
        let some = laws.some_work item.work o.orderly in
        let sums = r.1 in
        let same = r.2 in
        (r.0, omega (arith, sums, some), omega (arith, sums, some, same))
    visit_orderly state.Waiting at item old new answer shows ready there each h = absurd ((each_at (ItemIsOrderly works) old.items at item each there).acts ready shows)
    visit_orderly state.NeedsCompute at item old new answer shows ready there each h =
        let now : Item W = computed item h.1 in
        let o = each_at (ItemIsOrderly works) old.items at item each there in
        let g = laws.goes_on item.work h.0 h.1 o.orderly h.2.computes in
        let others : AllByRecursion (ItemIsOrderly works) (remove (set old.items at now) at) = rw (remove_set old.items at now) (each_remove (ItemIsOrderly works) old.items at each) in
        let f = follow_orderly h.0 at now (works.asked item.work) (works.work item.work) (put at now old) new answer (get_set old.items at item now there) others g.0 o.asked (laws.some_work item.work o.orderly) g.1 h.3 in
        let sums = set_sum (λ (item : Item W). works.work item.work) old.items at item now there in
        let one = f.1 in
        let two = f.2 in
        (f.0, omega (arith, sums, one), omega (arith, sums, two))

pub distinct_all : {W S C : Type 0} (source : Ghosts S C) (live : Live W S) → LiveFits source live → AllByRecursion (λ (item : Item W). repeats (numbers item.asked) ≡ false) live.items
distinct_all {W} source live fits = each_weaker (ItemFits source live.slots live.next_owner) (λ (item : Item W). repeats (numbers item.asked) ≡ false) live.items (λ item f. f.distinct) fits.each

module _ {W S C E : Type 0} (works : Works W C E) (source : Ghosts S C) (payload : Meanings C) (laws : WorkIsOrderly payload.means works) where
  abbrev pub Held : Live W S → Type 0
  Held live = LiveFits source live × IsOrderly works live

  -- the visits made and the work left, and the owner numbers and the work left, do not rise together
  abbrev pub Off : List Batch → ℕ → Live W S → ℕ → Live W S → Type 0
  Off batches made old made' new = (made' + work_left works new.items ≤ made + work_left works old.items) × (new.next_owner + work_left works new.items ≤ old.next_owner + work_left works old.items)

  asks_off : (root : RootId) (answer : Option (Completion C)) (made : ℕ) (old new : Live W S) → Held old → Asks works source payload root answer old new → Held new × Off [] made old made new
  asks_off root None made old new h a =
      let fits = asks_fits works source payload root None old new h.0 a in
      let is = ap (work_left works) a.delivers in
      let same = ap (λ (l : Live W S). l.next_owner) a.now in
      ((fits, subst (AllByRecursion (ItemIsOrderly works)) (sym a.delivers) h.1), (omega (arith, is), omega (arith, is, same)))
  asks_off root (Some completion) made old new h a =
      let fits = asks_fits works source payload root (Some completion) old new h.0 a in
      let d = delivers_orderly payload.means works laws root completion old.items new.items h.1 (distinct_all source old h.0) a.delivers in
      let less = d.1 in
      let same = ap (λ (l : Live W S). l.next_owner) a.now in
      ((fits, d.0), (omega (arith, less), omega (arith, less, same)))

  visits_off : (made at : ℕ) (item : Item W) (old new : Live W S) (came : Visited) → Held old → IsLeastReady old.items at item → Visits works source (works.state_is item.work) at item old new came → Held new × Off (came_batches came) made old (made + 1) new
  visits_off made at item old new came h least v =
      let o = visit_orderly payload.means works laws source (works.state_is item.work) at item old new came refl least.ready least.there h.1 v in
      let one = o.1 in
      ((visit_fits source works (works.state_is item.work) at item old new came h.0 least.there v, o.0), (omega (arith, one), o.2))

  pub worked_off : Carried works source payload Held Off
  worked_off = record {
    same = λ made live. (omega arith, omega arith);
    on = λ batches m n o a b d k l first then. let p = first.0 in let q = first.1 in let r = then.0 in let s = then.1 in (omega (arith, p, r), omega (arith, q, s));
    asks = asks_off;
    visits = visits_off;
  }
