-- Roots stay in step as results are delivered, and through whole calls.
use Rattle.std.proofs.Common.{◌≡◌, ◌≢◌, ℕ, zero, suc, List, refl, sym, ◌∙◌, ap, subst, Bool, true, false, cond, Option, None, Some, arith, length, ⊎_elim}
use Rattle.std.specs.Prelude.{slice_get, count_by}
use Rattle.std.specs.List.{remove}
use Rattle.std.proofs.Math.ListN.{set}
use Rattle.vortex_io.specs.Source.{Completes, Taken, TakesNone, TakesOne}
use Rattle.vortex_io.specs.declared.payload.Payload.{Ghosts as Meanings}
use Rattle.vortex_io.specs.declared.request.Completion.{Completion}
use Rattle.vortex_io.specs.declared.request.Fetch.{Fetch}
use Rattle.vortex_io.specs.declared.source.IoSource.{Ghosts}
use Rattle.vortex_scan.specs.declared.errors.Progress.{Progress}
use Rattle.vortex_scan.specs.declared.errors.Progress.TheVariants as progress
use Rattle.vortex_scan.specs.declared.errors.Visited.{Visited}
use Rattle.vortex_scan.specs.declared.errors.Visited.TheVariants as visited
use Rattle.vortex_scan.specs.declared.item.Item.{Item}
use Rattle.vortex_scan.specs.declared.item.Slot.{Slot}
use Rattle.vortex_scan_types.specs.declared.place.RootId.{RootId}
use Rattle.vortex_scan.specs.declared.worker.Worker.{Ghosts as Works}
use Rattle.vortex_scan.specs.Asking.{AsksLive, AsksOnce, is_live, root_at}
use Rattle.vortex_scan.specs.Fits.{ItemFits, LiveFits}
use Rattle.vortex_scan.specs.Going.{Advances, AsksAll, AsksIfDue, AsksOut, Ends, Gives, GoesOn, Turns}
use Rattle.vortex_scan.specs.InStep.{IsInStep, StaysInStep, kept_of}
use Rattle.vortex_scan.specs.RunState.{Live, RunState, is_of_root, live_with}
use Rattle.vortex_scan.specs.Steps.{Asks, Delivers, Hands, WaitsFor, handed}
use Rattle.vortex_scan.proofs.Asked.{asks_all_fits, asks_once_fits, gives_fits}
use Rattle.vortex_scan.proofs.Tallies.{count_none, none_sum, one_if, removed_sum}
use Rattle.vortex_scan.proofs.Fitting.{delivered_outstanding, each_both, left_fits, others}
use Rattle.vortex_scan.proofs.Places.{each_at, each_remove, each_weaker, get_set, get_set_other}
use Rattle.vortex_scan.proofs.Stepping.{OfOne, kept_own, other_named, other_number, same_entry, set_other, set_own, stays_by, stays_on, stays_same, taken_count, taken_named, visit_stays}
use Rattle.vortex_scan.proofs.Turning.{asks_due_fits, turn_fits}

module _ {W S C : Type 0} (source : Ghosts S C) where
  -- the source of a root in step has one fetch of an owner and number, which the item has too
  own_count : {E : Type 0} (works : Works W C E) (live : Live W S) (slot : Slot S) (at : ℕ) (item : Item W) (completion : Completion C) (left : List Fetch) (work : W) → LiveFits source live → slice_get live.items at ≡ Some item
      → slice_get live.slots item.root.0 ≡ Some slot → slot.live ≡ true → (hands : Hands works completion item left work) → IsInStep source live item.root
      → (test : Fetch → Bool) → OfOne completion.owner completion.request test → count_by test (source.outstanding slot.source) ≡ one_if (test hands.entry)
  own_count works live slot at item completion left work fits there here lives hands was test one =
      let f = each_at (ItemFits source live.slots live.next_owner) live.items at item fits.each there in
      let w = was slot here lives test in
      let sums = removed_sum (kept_of item.root test) live.items at item there in
      let mine = kept_own test item in
      let taken = taken_count completion.owner completion.request item.asked left hands.entry test hands.taken in
      let l = left_fits completion item.asked left hands.entry item.owner hands.taken f.own f.distinct in
      let none_left = count_none test left (each_weaker (λ (x : Fetch). x.request.0 ≢ completion.request.0) (λ (x : Fetch). test x ≡ false) left (λ x ne. one x (other_number completion.owner completion.request x ne)) l.2) in
      let Others : Item W → Type 0 = λ other. other.owner.0 ≢ item.owner.0 in
      let Old : Item W → Type 0 = ItemFits source live.slots live.next_owner in
      let theirs = none_sum (kept_of item.root test) (remove live.items at)
      (each_both Others Old (λ other. kept_of item.root test other ≡ 0) (remove live.items at)
      (λ other differs g.
      let none = count_none test other.asked
      (each_weaker (λ (x : Fetch). x.owner ≡ other.owner) (λ (x : Fetch). test x ≡ false) other.asked (λ x e. one x (other_named completion.owner other.owner completion.request x e (rw l.3 differs))) g.own) in
      elim (is_of_root item.root other) as (λ b. cond b (count_by test other.asked) 0 ≡ 0) [ true ↦ none | false ↦ refl ])
      (others live.items at item fits.rising there) (each_remove Old live.items at fits.each)) in
      omega (arith, w, sums, mine, taken, none_left, theirs)

  one_stays : {E : Type 0} (works : Works W C E) (items items' : List (Item W)) (slots : List (Slot S)) (owners : ℕ) (root : RootId) (slot : Slot S) (after : S) (completion : Completion C) (entry : Fetch)
      → LiveFits source (live_with items slots owners) → slice_get slots root.0 ≡ Some slot → Taken completion.owner completion.request (source.outstanding slot.source) (source.outstanding after) entry → Delivers works root completion items items'
      → StaysInStep source (live_with items slots owners) (live_with items' (set slots root.0 (record slot { source = after })) owners)
  one_stays works items items' slots owners root slot after completion entry fits there taken d =
      let slot' : Slot S = record slot { source = after } in
      let now' : Item W = handed works d.item d.left d.work in
      let here : slice_get slots d.item.root.0 ≡ Some slot = subst (λ (r : RootId). slice_get slots r.0 ≡ Some slot) (sym d.of_root) there in
      subst (λ (r : RootId). StaysInStep source (live_with items slots owners) (live_with items' (set slots r.0 slot') owners)) d.of_root
      (rw d.now (stays_by source d.item.root (live_with items slots owners) (live_with (set items d.at now') (set slots d.item.root.0 slot') owners)
      (λ other differs. get_set_other slots d.item.root.0 other slot' differs) (λ other test differs. set_other items d.at d.item now' other test d.there refl differs)
      (λ was now got live test.
      let set' = get_set slots d.item.root.0 slot slot' here in
      let same : slot' ≡ now = cc in
      let lives : slot.live ≡ true = ap (λ (s : Slot S). s.live) same ∙ live in
      let all = own_count works (live_with items slots owners) slot d.at d.item completion d.left d.work fits d.there here lives d.hands was in
      let e = same_entry completion.owner completion.request (source.outstanding slot.source) (source.outstanding after) entry d.hands.entry taken
      (taken_named completion.owner completion.request d.item.asked d.left d.hands.entry d.hands.taken) all test in
      let out = taken_count completion.owner completion.request (source.outstanding slot.source) (source.outstanding after) entry test taken in
      let kept = taken_count completion.owner completion.request d.item.asked d.left d.hands.entry test d.hands.taken in
      let w = was slot here lives test in
      let h = set_own items d.at d.item now' test d.there refl in
      let is = ap (λ (s : Slot S). count_by test (source.outstanding s.source)) same in
      omega (arith, e, out, kept, w, h, is))))

  delivered_stays : {E V : Type 0} (works : Works W C E) (means : C → V) (items items' : List (Item W)) (slots : List (Slot S)) (owners before now : ℕ) (root : RootId) (slot : Slot S) (after : S) (completion : Completion C)
      → LiveFits source (live_with items slots owners) → slice_get slots root.0 ≡ Some slot → Completes means (source.content slot.source) (source.outstanding slot.source) (source.outstanding after) before now completion → Delivers works root completion items items'
      → StaysInStep source (live_with items slots owners) (live_with items' (set slots root.0 (record slot { source = after })) owners)
  delivered_stays {E} {V} works means items items' slots owners before now root slot after completion fits there c d =
      ⊎_elim (λ (one : TakesOne means (source.content slot.source) (source.outstanding slot.source) (source.outstanding after) before now completion).
      one_stays works items items' slots owners root slot after completion one.entry fits there one.taken d)
      (λ (none : TakesNone (source.outstanding slot.source) (source.outstanding after) before now completion).
      absurd (let h = delivered_outstanding source works items items' slots owners root slot completion fits there d in let n = none.none in cc)) c

  -- a call that leaves what is outstanding
  called_stays : (items : List (Item W)) (slots : List (Slot S)) (owners : ℕ) (root : RootId) (slot : Slot S) (after : S) → slice_get slots root.0 ≡ Some slot → source.outstanding after ≡ source.outstanding slot.source
      → StaysInStep source (live_with items slots owners) (live_with items (set slots root.0 (record slot { source = after })) owners)
  called_stays items slots owners root slot after there same =
      let slot' : Slot S = record slot { source = after } in
      stays_by source root (live_with items slots owners) (live_with items (set slots root.0 slot') owners) (λ other differs. get_set_other slots root.0 other slot' differs) (λ other test differs. refl)
      (λ was now got live test.
      let set' = get_set slots root.0 slot slot' there in
      let is : slot' ≡ now = cc in
      let lives : slot.live ≡ true = ap (λ (s : Slot S). s.live) is ∙ live in
      sym (ap (λ (s : Slot S). count_by test (source.outstanding s.source)) is) ∙ ap (count_by test) same ∙ was slot there lives test)

module _ {W S C E : Type 0} (works : Works W C E) (source : Ghosts S C) (payload : Meanings C) where
  asks_stays : (root : RootId) (answer : Option (Completion C)) (old new : Live W S) → LiveFits source old → Asks works source payload root answer old new → StaysInStep source old new
  asks_stays root None old new fits a =
      let slots' = set old.slots root.0 (record a.slot { source = a.after }) in
      let e : new ≡ live_with old.items slots' old.next_owner = a.now ∙ ap (λ z. live_with z slots' old.next_owner) a.delivers in
      subst (λ (z : Live W S). StaysInStep source old z) (sym e) (called_stays source old.items old.slots old.next_owner root a.slot a.after a.there a.polls.accounts)
  asks_stays root (Some completion) old new fits a =
      subst (λ (z : Live W S). StaysInStep source old z) (sym a.now)
      (delivered_stays source works payload.means old.items new.items old.slots old.next_owner (source.lies a.slot.source) (source.lies a.after) root a.slot a.after completion fits a.there a.polls.accounts a.delivers)

  pub waits_stays : (root : RootId) (old new : Live W S) → LiveFits source old → WaitsFor works source payload root old new → StaysInStep source old new
  waits_stays root old new fits a =
      subst (λ (z : Live W S). StaysInStep source old z) (sym a.now)
      (delivered_stays source works payload.means old.items new.items old.slots old.next_owner (source.lies a.slot.source) (source.lies a.after) root a.slot a.after a.completion fits a.there a.waits.accounts a.delivers)

  pub gives_stays : (root times : ℕ) (old new : Live W S) → LiveFits source old → Gives works source payload root times old new → StaysInStep source old new
  gives_stays root zero old new fits g = rw g (stays_same source old)
  gives_stays root (suc times) old new fits g =
      stays_on source old g.0 new (gives_stays root times old g.0 fits g.2) (asks_stays (root_at root) (Some g.1) g.0 new (gives_fits works source payload root times old g.0 fits g.2) g.3)

  asks_out_stays : (root : ℕ) (live : Bool) (old new : Live W S) → LiveFits source old → AsksOut works source payload root live old new → StaysInStep source old new
  asks_out_stays root true old new fits a = stays_on source old a.1 new (gives_stays root a.0 old a.1 fits a.2) (asks_stays (root_at root) None a.1 new (gives_fits works source payload root a.0 old a.1 fits a.2) a.3)
  asks_out_stays root false old new fits a = rw a (stays_same source old)

  pub asks_all_stays : (roots : ℕ) (old new : Live W S) → LiveFits source old → AsksAll works source payload roots old new → StaysInStep source old new
  asks_all_stays zero old new fits a = rw a (stays_same source old)
  asks_all_stays (suc root) old new fits a =
      stays_on source old a.0 new (asks_all_stays root old a.0 fits a.1) (asks_out_stays root (is_live (slice_get a.0.slots root)) a.0 new (asks_all_fits works source payload root old a.0 fits a.1) a.2)

  asks_live_stays : (root : ℕ) (live : Bool) (old new : Live W S) (came : Bool) → LiveFits source old → AsksLive works source payload root live old new came → StaysInStep source old new
  asks_live_stays root true old new came fits a = asks_stays (root_at root) a.0 old new fits a.1
  asks_live_stays root false old new came fits a = rw a.0 (stays_same source old)

  pub asks_once_stays : (roots : ℕ) (old new : Live W S) (came : Bool) → LiveFits source old → AsksOnce works source payload roots old new came → StaysInStep source old new
  asks_once_stays zero old new came fits a = rw a.0 (stays_same source old)
  asks_once_stays (suc root) old new came fits a =
      stays_on source old a.0 new (asks_once_stays root old a.0 a.1 fits a.3) (asks_live_stays root (is_live (slice_get a.0.slots root)) a.0 new a.2 (asks_once_fits works source payload root old a.0 a.1 fits a.3) a.4)

  pub asks_due_stays : (asked : Bool) (old new : RunState W S) → LiveFits source old.live → AsksIfDue works source payload asked old new → StaysInStep source old.live new.live
  asks_due_stays true old new fits a = asks_all_stays (length old.live.slots) old.live new.live fits a.1.asks
  asks_due_stays false old new fits a = rw a.0 (stays_same source old.live)

  turn_stays : (old new : RunState W S) (came : Visited) → LiveFits source old.live → Turns works source payload old new came → StaysInStep source old.live new.live
  turn_stays old new came fits t =
      let v = t.visits in
      let fits' = asks_due_fits works source payload t.asked old t.between fits t.asks in
      stays_on source old.live t.between.live new.live (asks_due_stays t.asked old t.between fits t.asks) (visit_stays source works (works.state_is v.item.work) v.at v.item t.between.live new.live came fits' v.least.there v.visits)

  pub goes_stays : (turns : ℕ) (old new : RunState W S) → LiveFits source old.live → GoesOn works source payload turns old new → StaysInStep source old.live new.live × LiveFits source new.live
  goes_stays zero old new fits g = rw g (stays_same source old.live, fits)
  goes_stays (suc turns) old new fits g =
      let before = goes_stays turns old g.0 fits g.1 in
      (stays_on source old.live g.0.live new.live before.0 (turn_stays g.0 new visited.Went before.1 g.2), turn_fits works source payload g.0 new visited.Went before.1 g.2)

  ends_stays : (old new : RunState W S) (answer : Progress) → LiveFits source old.live → Ends works source payload old new answer → StaysInStep source old.live new.live
  ends_stays old new (progress.Batch batch) fits t = turn_stays old new (visited.Batch batch) fits t
  ends_stays old new (progress.RootDone root) fits t = turn_stays old new (visited.RootDone root) fits t
  ends_stays old new progress.Waiting fits t = asks_due_stays true old new fits t.0
  ends_stays old new progress.Idle fits t = asks_due_stays true old new fits t.0

  pub advances_stay : (old new : RunState W S) (answer : Progress) → LiveFits source old.live → Advances works source payload old new answer → StaysInStep source old.live new.live
  advances_stay old new answer fits a =
      let before = goes_stays a.turns old a.between fits a.goes in
      stays_on source old.live a.between.live new.live before.0 (ends_stays a.between new answer before.1 a.ends)
