-- Asking a source again and again.
use Rattle.std.proofs.Common.{◌≡◌, ℕ, suc, ◌+◌, ◌<◌, List, ◌∷◌, sym, ◌∙◌, ap, Bool, true, false, Option, None, Some, arith, length, length-append, slice_index_or}
use Rattle.std.specs.Prelude.{is_some, slice_get}
use Rattle.std.proofs.Math.ListN.{set}
use Rattle.std.proofs.lemmas.List.Sums.{sum_by-set}
use Rattle.std.proofs.lemmas.Option.{get_or_from_slice_get, slice_get_within}
use Rattle.vortex_io.specs.Source.{Taken}
use Rattle.vortex_io.specs.declared.ids.IoOwnerId.{IoOwnerId}
use Rattle.vortex_io.specs.declared.ids.IoRequestId.{IoRequestId}
use Rattle.vortex_io.specs.declared.payload.Payload.{Ghosts as Meanings}
use Rattle.vortex_io.specs.declared.request.Completion.{Completion}
use Rattle.vortex_io.specs.declared.request.Fetch.{Fetch}
use Rattle.vortex_io.specs.declared.source.IoSource.{Ghosts}
use Rattle.vortex_scan.specs.declared.item.Item.{Item}
use Rattle.vortex_scan.specs.declared.item.Slot.{Slot}
use Rattle.vortex_scan_types.specs.declared.place.RootId.{RootId}
use Rattle.vortex_scan.specs.declared.worker.Worker.{Ghosts as Works}
use Rattle.vortex_scan.specs.Asking.{root_at}
use Rattle.vortex_scan.specs.Going.{Gives}
use Rattle.vortex_scan.specs.RunState.{Live}
use Rattle.vortex_scan.specs.Steps.{Asks, handed}
use Rattle.vortex_scan.specs.Visits.{asked_count}
use Rattle.vortex_scan.proofs.Places.{get_set}

pub one_fewer : (owner : IoOwnerId) (request : IoRequestId) (old new : List Fetch) (entry : Fetch) → Taken owner request old new entry → length new + 1 ≡ length old
one_fewer owner request old new entry t = rw (t.stood, t.left) (omega (arith, length-append t.before t.behind, length-append t.before (entry ∷ t.behind)))

pub count_set : {W : Type 0} (items : List (Item W)) (at : ℕ) (item now : Item W) → slice_get items at ≡ Some item → length now.asked + 1 ≡ length item.asked → asked_count (set items at now) + 1 ≡ asked_count items
count_set {W} items at item now there fewer =
    let f : Item W → ℕ = λ x. length x.asked in
    let h = sum_by-set f items at now item (slice_get_within items at item there) in
    let g : f (slice_index_or items at item) ≡ length item.asked = ap f (get_or_from_slice_get items at item item there) in
    omega (arith, h, g, fewer)

module _ {W S C E : Type 0} (works : Works W C E) (source : Ghosts S C) (payload : Meanings C) where
  -- the last time, nothing came
  pub last_asked : (root : RootId) (answer : Option (Completion C)) (came : Bool) (old new : Live W S) → Asks works source payload root answer old new → came ≡ is_some answer → came ≡ false → Asks works source payload root None old new
  last_asked root None came old new a e f = a
  last_asked root (Some completion) came old new a e f = absurd (cc)

  -- something came once more
  pub once_more : (root times : ℕ) (answer : Option (Completion C)) (came : Bool) (first old new : Live W S) → Gives works source payload root times first old → Asks works source payload (root_at root) answer old new → came ≡ is_some answer → came ≡ true
      → Gives works source payload root (suc times) first new
  once_more root times None came first old new g a e f = absurd (cc)
  once_more root times (Some completion) came first old new g a e f = (old, completion, g, a)

  -- the root stays live
  pub asked_live : (root : RootId) (answer : Option (Completion C)) (old new : Live W S) → Asks works source payload root answer old new → (slot : Slot S) → slice_get new.slots root.0 ≡ Some slot → slot.live ≡ true
  asked_live root answer old new a slot at =
      let slots' : new.slots ≡ set old.slots root.0 (record a.slot { source = a.after }) = ap (λ (l : Live W S). l.slots) a.now in
      let got : slice_get new.slots root.0 ≡ Some (record a.slot { source = a.after }) = rw slots' (get_set old.slots root.0 a.slot (record a.slot { source = a.after }) a.there) in
      let same : (let s : Slot S = record a.slot { source = a.after } in s) ≡ slot = cc in
      sym (ap (λ (s : Slot S). s.live) same) ∙ a.live

  -- fewer fetches are outstanding where something came
  pub asked_fewer : (root : RootId) (answer : Option (Completion C)) (came : Bool) (old new : Live W S) → Asks works source payload root answer old new → came ≡ is_some answer → came ≡ true → asked_count new.items < asked_count old.items
  asked_fewer root None came old new a e f = absurd (cc)
  asked_fewer root (Some completion) came old new a e f =
      let d = a.delivers in
      let fewer = one_fewer completion.owner completion.request d.item.asked d.left d.hands.entry d.hands.taken in
      let less = count_set old.items d.at d.item (handed works d.item d.left d.work) d.there fewer in
      rw d.now (omega (arith, less))
