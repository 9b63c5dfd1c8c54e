-- Sources that were asked once each.
use Rattle.std.proofs.Common.{◌≡◌, ◌≢◌, ℕ, zero, suc, ◌<◌, ◌≤◌, refl, sym, ◌∙◌, ap, Bool, true, false, ◌||◌, Option, None, Some, arith, length}
use Rattle.std.specs.Prelude.{slice_get, eqb, is_some}
use Rattle.std.proofs.lemmas.Bool.{eqb-true}
use Rattle.std.proofs.lemmas.Bool.Decides.{nat_tests}
use Rattle.std.proofs.lemmas.Option.{slice_get_within}
use Rattle.vortex_io.specs.declared.payload.Payload.{Ghosts as Meanings}
use Rattle.vortex_io.specs.declared.request.Completion.{Completion}
use Rattle.vortex_io.specs.declared.source.IoSource.{Ghosts}
use Rattle.vortex_scan.specs.declared.item.Slot.{Slot}
use Rattle.vortex_scan_types.specs.declared.place.RootId.{RootId}
use Rattle.vortex_scan.specs.declared.worker.Worker.{Ghosts as Works}
use Rattle.vortex_scan.specs.Asking.{AsksLive, AsksOnce, is_live, root_at}
use Rattle.vortex_scan.specs.RunState.{Live}
use Rattle.vortex_scan.specs.Steps.{Asks}
use Rattle.vortex_scan.specs.Visits.{asked_count}
use Rattle.vortex_scan.specs.Whole.{AreQuiet}
use Rattle.vortex_scan.proofs.AskedOut.{asked_fewer}
use Rattle.vortex_scan.proofs.Quieting.{IsQuiet, asked_none, asks_other}

left_none : (a b : Bool) → (a || b) ≡ false → a ≡ false
left_none true b e = absurd (cc)
left_none false b e = refl

right_none : (a b : Bool) → (a || b) ≡ false → b ≡ false
right_none true b e = absurd (cc)
right_none false b e = e

module _ {W S C E : Type 0} (works : Works W C E) (source : Ghosts S C) (payload : Meanings C) where
  live_other : (root : ℕ) (live : Bool) (old new : Live W S) (came : Bool) (other : ℕ) → other ≢ root → AsksLive works source payload root live old new came → slice_get new.slots other ≡ slice_get old.slots other
  live_other root true old new came other differs a = asks_other works source payload (root_at root) a.0 old new other differs a.1
  live_other root false old new came other differs a = ap (λ (l : Live W S). slice_get l.slots other) a.0

  once_behind : (roots : ℕ) (old new : Live W S) (came : Bool) (other : ℕ) → roots ≤ other → AsksOnce works source payload roots old new came → slice_get new.slots other ≡ slice_get old.slots other
  once_behind zero old new came other behind a = ap (λ (l : Live W S). slice_get l.slots other) a.0
  once_behind (suc root) old new came other behind a =
      live_other root (is_live (slice_get a.0.slots root)) a.0 new a.2 other (λ e. omega (arith, behind, e)) a.4 ∙ once_behind root old a.0 a.1 other (omega (arith, behind)) a.3

  asked_quiet : (root : RootId) (answer : Option (Completion C)) (old new : Live W S) (before after : Slot S) → is_some answer ≡ false → Asks works source payload root answer old new
      → slice_get old.slots root.0 ≡ Some before → slice_get new.slots root.0 ≡ Some after → IsQuiet source before after
  asked_quiet root None old new before after none a there now =
      let last = asked_none works source payload root old new after a now in
      let was = last.1 in
      let same : last.0 ≡ before = cc in
      rw same at last.2
  asked_quiet root (Some completion) old new before after none a there now = absurd (cc)

  asked_items : (root : RootId) (answer : Option (Completion C)) (old new : Live W S) → is_some answer ≡ false → Asks works source payload root answer old new → new.items ≡ old.items
  asked_items root None old new none a = a.delivers
  asked_items root (Some completion) old new none a = absurd (cc)

  live_quiet : (root : ℕ) (live : Bool) (old new : Live W S) (came : Bool) (before after : Slot S) → live ≡ is_live (slice_get old.slots root) → AsksLive works source payload root live old new came → came ≡ false
      → slice_get old.slots root ≡ Some before → slice_get new.slots root ≡ Some after → after.live ≡ true → IsQuiet source before after
  live_quiet root true old new came before after is a none there now live = asked_quiet (root_at root) a.0 old new before after (sym a.2 ∙ none) a.1 there now
  live_quiet root false old new came before after is a none there now live =
      let now' : slice_get old.slots root ≡ Some after = sym (ap (λ (x : Live W S). slice_get x.slots root) a.0) ∙ now in
      let yes : is_live (slice_get old.slots root) ≡ true = ap is_live now' ∙ live in
      absurd (cc)

  live_items : (root : ℕ) (live : Bool) (old new : Live W S) (came : Bool) → AsksLive works source payload root live old new came → came ≡ false → new.items ≡ old.items
  live_items root true old new came a none = asked_items (root_at root) a.0 old new (sym a.2 ∙ none) a.1
  live_items root false old new came a none = ap (λ (l : Live W S). l.items) a.0

  once_quiet : (roots : ℕ) (old new : Live W S) (came : Bool) (root : ℕ) (before after : Slot S) → root < roots → AsksOnce works source payload roots old new came → came ≡ false
      → slice_get old.slots root ≡ Some before → slice_get new.slots root ≡ Some after → after.live ≡ true → IsQuiet source before after
  once_quiet zero old new came root before after within a none there now live = absurd (omega (arith, within))
  once_quiet (suc last) old new came root before after within a none there now live =
      let neither : (a.1 || a.2) ≡ false = sym a.5 ∙ none in
      elim (eqb root last) as (λ b. eqb root last ≡ b → IsQuiet source before after) [
        | true ↦ λ e.
            let same : root ≡ last = eqb-true _ _ e in
            let is : slice_get a.0.slots root ≡ Some before = once_behind last old a.0 a.1 root (omega (arith, same)) a.3 ∙ there in
            let is' : slice_get a.0.slots last ≡ Some before = ap (λ n. slice_get a.0.slots n) (sym same) ∙ is in
            let now' : slice_get new.slots last ≡ Some after = ap (λ n. slice_get new.slots n) (sym same) ∙ now in
            live_quiet last (is_live (slice_get a.0.slots last)) a.0 new a.2 before after refl a.4 (right_none a.1 a.2 neither) is' now' live
        | false ↦ λ e.
            let differs : root ≢ last = λ h. let t : eqb root last ≡ true = grind (arith, nat_tests) in cc in
            let now' : slice_get a.0.slots root ≡ Some after = sym (live_other last (is_live (slice_get a.0.slots last)) a.0 new a.2 root differs a.4) ∙ now in
            once_quiet last old a.0 a.1 root before after (omega (arith, within, differs)) a.3 (left_none a.1 a.2 neither) there now' live
      ] refl

  -- where nothing came, each source was found with nothing
  pub once_are_quiet : (old new : Live W S) (came : Bool) → AsksOnce works source payload (length old.slots) old new came → came ≡ false → AreQuiet source old.slots new.slots
  once_are_quiet old new came a none root before after there now live = once_quiet (length old.slots) old new came root before after (slice_get_within old.slots root before there) a none there now live

  -- and nothing was delivered
  pub once_items : (roots : ℕ) (old new : Live W S) (came : Bool) → AsksOnce works source payload roots old new came → came ≡ false → new.items ≡ old.items
  once_items zero old new came a none = ap (λ (l : Live W S). l.items) a.0
  once_items (suc root) old new came a none =
      let neither : (a.1 || a.2) ≡ false = sym a.5 ∙ none in
      live_items root (is_live (slice_get a.0.slots root)) a.0 new a.2 a.4 (right_none a.1 a.2 neither) ∙ once_items root old a.0 a.1 a.3 (left_none a.1 a.2 neither)

  -- where something came, fewer fetches are outstanding
  live_fewer : (root : ℕ) (live : Bool) (old new : Live W S) (came : Bool) → AsksLive works source payload root live old new came → came ≡ true → asked_count new.items < asked_count old.items
  live_fewer root true old new came a some = asked_fewer works source payload (root_at root) a.0 came old new a.1 a.2 some
  live_fewer root false old new came a some = let none = a.1 in absurd (cc)

  live_not_more : (root : ℕ) (live : Bool) (old new : Live W S) (came : Bool) → AsksLive works source payload root live old new came → asked_count new.items ≤ asked_count old.items
  live_not_more root live old new came a =
      elim came as (λ b. came ≡ b → asked_count new.items ≤ asked_count old.items) [
        | true ↦ λ e. let h = live_fewer root live old new came a e in omega (arith, h)
        | false ↦ λ e. let h = ap (λ items. asked_count items) (live_items root live old new came a e) in omega (arith, h)
      ] refl

  once_not_more : (roots : ℕ) (old new : Live W S) (came : Bool) → AsksOnce works source payload roots old new came → asked_count new.items ≤ asked_count old.items
  once_not_more zero old new came a = let h = ap (λ (l : Live W S). asked_count l.items) a.0 in omega (arith, h)
  once_not_more (suc root) old new came a =
      let first = once_not_more root old a.0 a.1 a.3 in
      let then = live_not_more root (is_live (slice_get a.0.slots root)) a.0 new a.2 a.4 in
      omega (arith, first, then)

  pub once_fewer : (roots : ℕ) (old new : Live W S) (came : Bool) → AsksOnce works source payload roots old new came → came ≡ true → asked_count new.items < asked_count old.items
  once_fewer zero old new came a some = let none = a.1 in absurd (cc)
  once_fewer (suc root) old new came a some =
      elim a.1 as (λ b. a.1 ≡ b → asked_count new.items < asked_count old.items) [
        | true ↦ λ e.
            let first = once_fewer root old a.0 a.1 a.3 e in
            let then = live_not_more root (is_live (slice_get a.0.slots root)) a.0 new a.2 a.4 in
            omega (arith, first, then)
        | false ↦ λ e.
            let here : a.2 ≡ true = ap (λ b. b || a.2) (sym e) ∙ sym a.5 ∙ some in
            let first = once_not_more root old a.0 a.1 a.3 in
            let then = live_fewer root (is_live (slice_get a.0.slots root)) a.0 new a.2 a.4 here in
            omega (arith, first, then)
      ] refl
