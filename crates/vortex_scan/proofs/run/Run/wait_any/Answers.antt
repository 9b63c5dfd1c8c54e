use Rattle.std.proofs.Common.{◌≡◌, ◌∙◌, refl, Some, slice_get}
use Rattle.std.proofs.lemmas.Option.{slice_get_within}
use Rattle.vortex_scan.specs.RunState.{live_with}
use Rattle.vortex_scan.proofs.Asked.{asking_live, some_outstanding, waits_fits}
use Rattle.vortex_scan.proofs.Bagged.{wait_bag}
use Rattle.vortex_scan.proofs.Delivered.{waits_stays}
use Rattle.vortex_scan.proofs.Expecting.{wait_lies}
use Rattle.vortex_scan.proofs.Faulting.{wait_cause}
use Rattle.vortex_scan.proofs.Kept.{each_long}
use Rattle.vortex_scan.proofs.Named.{waits_named}
use Rattle.vortex_scan.proofs.Owing.{publishes_by, work_owes}
use Rattle.vortex_scan.proofs.Rooted.{peopled_same, waits_same}
use Rattle.vortex_scan.proofs.WholeOrder.{wait_orderly}
use Rattle.vortex_scan.proofs.Ordering.{work_orderly}
use Rattle.vortex_scan.specs.Going.{state_with}
use Rattle.vortex_scan.proofs.Refusing.{wait_in_order}
use Rattle.vortex_scan.proofs.Permitted.{wait_permits_less}
use Rattle.vortex_scan.proofs.Noting.{wait_fails_once, wait_once}
use Rattle.vortex_scan.proofs.Planned.{delivers_planned}
use Rattle.vortex_scan.proofs.Planning.{work_plans}
use Rattle.vortex_scan.proofs.WholeSeats.{keeps_fresh, keeps_seats, spends_seats, wait_passed}
use Rattle.vortex_scan.proofs.run.Run.wait_any.Goals as goal

pub unreachable-requires : goal.unreachable-requires
unreachable-requires g c =
    let a = rw (← c.self.view_is) at c.requires.asking in
    c.in_default.ensures a.0 (rw c.deref.ensures.value a.1)

pub wait_for-requires-clause-in_range : goal.wait_for-requires-clause-in_range
wait_for-requires-clause-in_range g c =
    let first = rw c.deref.ensures.value at c.in-Some.ensures in
    let fits = (c.self.invariant.fits (rw (← c.self.view_is) at c.requires.well)).live in
    let l = asking_live g.S.IoSource (live_with c.self.inside.items.items c.self.inside.slots.items c.self.inside.next_owner) c.in-Some.root.0 fits first.asking in
    slice_get_within c.self.inside.slots.items c.in-Some.root.0 l.0 l.1

pub wait_for-requires-clause-live : goal.wait_for-requires-clause-live
wait_for-requires-clause-live g c = λ slot at.
    let first = rw c.deref.ensures.value at c.in-Some.ensures in
    let fits = (c.self.invariant.fits (rw (← c.self.view_is) at c.requires.well)).live in
    let l = asking_live g.S.IoSource (live_with c.self.inside.items.items c.self.inside.slots.items c.self.inside.next_owner) c.in-Some.root.0 fits first.asking in
    let got : slice_get c.self.inside.slots.items c.in-Some.root.0 ≡ Some l.0 = l.1 in
    let same : l.0 ≡ slot = cc in
    rw same at l.2

pub wait_for-requires-clause-outstanding : goal.wait_for-requires-clause-outstanding
wait_for-requires-clause-outstanding g c = λ slot at.
    let first = rw c.deref.ensures.value at c.in-Some.ensures in
    let fits = (c.self.invariant.fits (rw (← c.self.view_is) at c.requires.well)).live in
    some_outstanding g.S.IoSource (live_with c.self.inside.items.items c.self.inside.slots.items c.self.inside.next_owner) c.in-Some.root.0 slot fits first.asking at

pub invariant_of-self : goal.invariant_of-self
invariant_of-self g c =
    let inv = c.self.invariant in
    let long = each_long g.S.IoSource c.self.inside.slots.items c.wait_for.new.slots.items c.wait_for.ensures.sources in
    record {
      none = inv.none;
      enough = rw long inv.enough;
      fits = λ well.
          let f = inv.fits well in
          record {
            roots = long ∙ f.roots;
            live = waits_fits _ g.S.IoSource _ c.in-Some.root (live_with c.self.inside.items.items c.self.inside.slots.items c.self.inside.next_owner) (live_with c.wait_for.new.items.items c.wait_for.new.slots.items c.self.inside.next_owner) f.live (c.in-Ok.ensures.ok c.self.inside.next_owner);
            peopled = peopled_same (live_with c.self.inside.items.items c.self.inside.slots.items c.self.inside.next_owner) (live_with c.wait_for.new.items.items c.wait_for.new.slots.items c.self.inside.next_owner)
                (waits_same _ g.S.IoSource _ c.in-Some.root (live_with c.self.inside.items.items c.self.inside.slots.items c.self.inside.next_owner) (live_with c.wait_for.new.items.items c.wait_for.new.slots.items c.self.inside.next_owner) (c.in-Ok.ensures.ok c.self.inside.next_owner)) f.peopled;
            since = f.since;
          };
      named = λ told well. waits_named _ g.S.IoSource _ c.in-Some.root (live_with c.self.inside.items.items c.self.inside.slots.items c.self.inside.next_owner) (live_with c.wait_for.new.items.items c.wait_for.new.slots.items c.self.inside.next_owner) (inv.named told well) (c.in-Ok.ensures.ok c.self.inside.next_owner);
      planned = λ told well.
          let plans = told.0 in
          let morsels = told.1 in
          delivers_planned _ _ g.S.IoSource _ _ _ (work_plans _ _ _ _ _ _ _ _ _ _ _ _ _ (g.met.P.Planner.follows_plan plans) (g.met.P.Morsel.Morsel.follows_plan morsels)) c.in-Some.root (c.in-Ok.ensures.ok c.self.inside.next_owner).completion c.self.inside.items.items c.wait_for.new.items.items (inv.planned told well) (c.in-Ok.ensures.ok c.self.inside.next_owner).delivers;
    }

pub invariant_of-self-in-Err : goal.invariant_of-self-in-Err
invariant_of-self-in-Err g c =
    let inv = c.self.invariant in
    let long = each_long g.S.IoSource c.self.inside.slots.items c.wait_for.new.slots.items c.wait_for.ensures.sources in
    record { none = inv.none; enough = rw long inv.enough; fits = λ well. absurd (cc); named = λ told well. absurd (cc); planned = λ told well. absurd (cc) }

pub returns-in-Ok-clause-ok : goal.returns-in-Ok-clause-ok
returns-in-Ok-clause-ok g c =
    let first = rw c.deref.ensures.value at c.in-Some.ensures in
    rw (← c.self.view_is) (c.in-Some.root.0, first, c.in-Ok.ensures.ok c.self.inside.next_owner, refl)

pub returns-in-Err-clause-err : goal.returns-in-Err-clause-err
returns-in-Err-clause-err g c =
    let first = rw c.deref.ensures.value at c.in-Some.ensures in
    rw (← c.self.view_is) (c.in-Some.root.0, first, c.in-Err.ensures.err c.self.inside.next_owner, refl)

pub returns-in-Ok-clause-roots : goal.returns-in-Ok-clause-roots
returns-in-Ok-clause-roots g c = rw (← c.self.view_is) ((waits_same _ g.S.IoSource _ c.in-Some.root (live_with c.self.inside.items.items c.self.inside.slots.items c.self.inside.next_owner) (live_with c.wait_for.new.items.items c.wait_for.new.slots.items c.self.inside.next_owner) (c.in-Ok.ensures.ok c.self.inside.next_owner)).0)

pub returns-in-Err-clause-cause : goal.returns-in-Err-clause-cause
returns-in-Err-clause-cause g c = rw (← c.self.view_is) (wait_cause _ g.S.IoSource _ c.in-Some.root (live_with c.self.inside.items.items c.self.inside.slots.items c.self.inside.next_owner) (live_with c.wait_for.new.items.items c.wait_for.new.slots.items c.self.inside.next_owner) c.in-Err.error (c.in-Err.ensures.err c.self.inside.next_owner))

pub returns-in-Err-clause-unexpected : goal.returns-in-Err-clause-unexpected
returns-in-Err-clause-unexpected g c = rw (← c.self.view_is) (wait_lies _ g.S.IoSource _ c.in-Some.root (live_with c.self.inside.items.items c.self.inside.slots.items c.self.inside.next_owner) (live_with c.wait_for.new.items.items c.wait_for.new.slots.items c.self.inside.next_owner) c.in-Err.error (c.in-Err.ensures.err c.self.inside.next_owner))

pub returns-in-Ok-clause-in_step : goal.returns-in-Ok-clause-in_step
returns-in-Ok-clause-in_step g c =
    let fits = (c.self.invariant.fits (rw (← c.self.view_is) at c.requires.well)).live in
    rw (← c.self.view_is) (waits_stays _ g.S.IoSource _ c.in-Some.root (live_with c.self.inside.items.items c.self.inside.slots.items c.self.inside.next_owner) (live_with c.wait_for.new.items.items c.wait_for.new.slots.items c.self.inside.next_owner) fits (c.in-Ok.ensures.ok c.self.inside.next_owner))

pub returns-in-Ok-clause-bag : goal.returns-in-Ok-clause-bag
returns-in-Ok-clause-bag g c =
    let well = rw (← c.self.view_is) at c.requires.well in
    rw (← c.self.view_is) (λ planners morsels.
    wait_bag _ g.S.IoSource _ _ (work_owes _ _ _ _ _ _ _ _ _ _ _ (g.met.P.Planner.owes planners) (g.met.P.Morsel.Morsel.owes morsels)) c.in-Some.root (live_with c.self.inside.items.items c.self.inside.slots.items c.self.inside.next_owner)
    (live_with c.wait_for.new.items.items c.wait_for.new.slots.items c.self.inside.next_owner) (c.self.invariant.fits well).live (c.self.invariant.named (planners, morsels) well) (c.in-Ok.ensures.ok c.self.inside.next_owner))

pub returns-in-Ok-clause-orderly : goal.returns-in-Ok-clause-orderly
returns-in-Ok-clause-orderly g c =
    let fits = (c.self.invariant.fits (rw (← c.self.view_is) at c.requires.well)).live in
    rw (← c.self.view_is) ((wait_orderly _ g.S.IoSource _ (work_orderly _ _ _ _ _ _ _ _ _ _ _ _ _ _ _ _ _ _ _ g.met.P.Planner.is_orderly g.met.P.Morsel.Morsel.is_orderly) c.in-Some.root (state_with c.self.inside.items.items c.self.inside.slots.items c.self.inside.next_owner c.self.inside.counts c.self.inside.next_root)
    (live_with c.wait_for.new.items.items c.wait_for.new.slots.items c.self.inside.next_owner) fits (c.in-Ok.ensures.ok c.self.inside.next_owner)).0)

pub returns-in-Ok-clause-work : goal.returns-in-Ok-clause-work
returns-in-Ok-clause-work g c =
    let fits = (c.self.invariant.fits (rw (← c.self.view_is) at c.requires.well)).live in
    rw (← c.self.view_is) ((wait_orderly _ g.S.IoSource _ (work_orderly _ _ _ _ _ _ _ _ _ _ _ _ _ _ _ _ _ _ _ g.met.P.Planner.is_orderly g.met.P.Morsel.Morsel.is_orderly) c.in-Some.root (state_with c.self.inside.items.items c.self.inside.slots.items c.self.inside.next_owner c.self.inside.counts c.self.inside.next_root)
    (live_with c.wait_for.new.items.items c.wait_for.new.slots.items c.self.inside.next_owner) fits (c.in-Ok.ensures.ok c.self.inside.next_owner)).1)

pub returns-in-Err-clause-disorder : goal.returns-in-Err-clause-disorder
returns-in-Err-clause-disorder g c =
    let well = rw (← c.self.view_is) at c.requires.well in
    let fits = (c.self.invariant.fits well).live in
    rw (← c.self.view_is, well) (wait_in_order _ g.S.IoSource _ (work_orderly _ _ _ _ _ _ _ _ _ _ _ _ _ _ _ _ _ _ _ g.met.P.Planner.is_orderly g.met.P.Morsel.Morsel.is_orderly) c.in-Some.root (state_with c.self.inside.items.items c.self.inside.slots.items c.self.inside.next_owner c.self.inside.counts c.self.inside.next_root)
    (live_with c.wait_for.new.items.items c.wait_for.new.slots.items c.self.inside.next_owner) c.in-Err.error fits (c.in-Err.ensures.err c.self.inside.next_owner))

pub returns-in-Ok-clause-permitted : goal.returns-in-Ok-clause-permitted
returns-in-Ok-clause-permitted g c =
    let well = rw (← c.self.view_is) at c.requires.well in
    rw (← c.self.view_is) (λ planners morsels.
    wait_permits_less _ g.S.IoSource _ (work_orderly _ _ _ _ _ _ _ _ _ _ _ _ _ _ _ _ _ _ _ g.met.P.Planner.is_orderly g.met.P.Morsel.Morsel.is_orderly) _ (work_owes _ _ _ _ _ _ _ _ _ _ _ (g.met.P.Planner.owes planners) (g.met.P.Morsel.Morsel.owes morsels)) c.in-Some.root (live_with c.self.inside.items.items c.self.inside.slots.items c.self.inside.next_owner)
    (live_with c.wait_for.new.items.items c.wait_for.new.slots.items c.self.inside.next_owner) (c.self.invariant.fits well).live (c.self.invariant.named (planners, morsels) well) (c.in-Ok.ensures.ok c.self.inside.next_owner))

pub returns-in-Ok-clause-seats : goal.returns-in-Ok-clause-seats
returns-in-Ok-clause-seats g c =
    let well = rw (← c.self.view_is) at c.requires.well in
    rw (← c.self.view_is) (λ plans morsels.
    keeps_seats g.S.IoSource _ _ _ _ _ _ (λ root told. wait_passed _ g.S.IoSource _ _ _ _ (work_plans _ _ _ _ _ _ _ _ _ _ _ _ _ (g.met.P.Planner.follows_plan plans) (g.met.P.Morsel.Morsel.follows_plan morsels)) (g.P.Planner.tells × g.P.Morsel.Morsel.tells) (λ t. publishes_by _ _ _ _ _ _ _ _ _ _ _ (g.met.P.Planner.owes t.0) (g.met.P.Morsel.Morsel.owes t.1)) root told c.in-Some.root (live_with c.self.inside.items.items c.self.inside.slots.items c.self.inside.next_owner) (live_with c.wait_for.new.items.items c.wait_for.new.slots.items c.self.inside.next_owner) ((c.self.invariant.fits well).live, (λ t. c.self.invariant.named t well), c.self.invariant.planned (plans, morsels) well) (c.in-Ok.ensures.ok c.self.inside.next_owner)))

pub returns-in-Ok-clause-fetched : goal.returns-in-Ok-clause-fetched
returns-in-Ok-clause-fetched g c =
    let well = rw (← c.self.view_is) at c.requires.well in
    rw (← c.self.view_is) (λ plans morsels.
    spends_seats g.S.IoSource _ _ _ _ _ _ (λ root told. wait_passed _ g.S.IoSource _ _ _ _ (work_plans _ _ _ _ _ _ _ _ _ _ _ _ _ (g.met.P.Planner.follows_plan plans) (g.met.P.Morsel.Morsel.follows_plan morsels)) (g.P.Planner.tells × g.P.Morsel.Morsel.tells) (λ t. publishes_by _ _ _ _ _ _ _ _ _ _ _ (g.met.P.Planner.owes t.0) (g.met.P.Morsel.Morsel.owes t.1)) root told c.in-Some.root (live_with c.self.inside.items.items c.self.inside.slots.items c.self.inside.next_owner) (live_with c.wait_for.new.items.items c.wait_for.new.slots.items c.self.inside.next_owner) ((c.self.invariant.fits well).live, (λ t. c.self.invariant.named t well), c.self.invariant.planned (plans, morsels) well) (c.in-Ok.ensures.ok c.self.inside.next_owner)))

pub returns-in-Ok-clause-fresh : goal.returns-in-Ok-clause-fresh
returns-in-Ok-clause-fresh g c =
    let well = rw (← c.self.view_is) at c.requires.well in
    rw (← c.self.view_is) (λ plans morsels.
    keeps_fresh g.S.IoSource _ _ _ _ _ _ (λ root told. wait_passed _ g.S.IoSource _ _ _ _ (work_plans _ _ _ _ _ _ _ _ _ _ _ _ _ (g.met.P.Planner.follows_plan plans) (g.met.P.Morsel.Morsel.follows_plan morsels)) (g.P.Planner.tells × g.P.Morsel.Morsel.tells) (λ t. publishes_by _ _ _ _ _ _ _ _ _ _ _ (g.met.P.Planner.owes t.0) (g.met.P.Morsel.Morsel.owes t.1)) root told c.in-Some.root (live_with c.self.inside.items.items c.self.inside.slots.items c.self.inside.next_owner) (live_with c.wait_for.new.items.items c.wait_for.new.slots.items c.self.inside.next_owner) ((c.self.invariant.fits well).live, (λ t. c.self.invariant.named t well), c.self.invariant.planned (plans, morsels) well) (c.in-Ok.ensures.ok c.self.inside.next_owner)))

pub returns-in-Ok-clause-journals : goal.returns-in-Ok-clause-journals
returns-in-Ok-clause-journals g c = rw (← c.self.view_is) ((wait_once _ g.S.IoSource _ c.in-Some.root (live_with c.self.inside.items.items c.self.inside.slots.items c.self.inside.next_owner) (live_with c.wait_for.new.items.items c.wait_for.new.slots.items c.self.inside.next_owner) (c.in-Ok.ensures.ok c.self.inside.next_owner)).0)

pub returns-in-Err-clause-journals : goal.returns-in-Err-clause-journals
returns-in-Err-clause-journals g c = rw (← c.self.view_is) ((wait_fails_once _ g.S.IoSource _ c.in-Some.root (live_with c.self.inside.items.items c.self.inside.slots.items c.self.inside.next_owner) (live_with c.wait_for.new.items.items c.wait_for.new.slots.items c.self.inside.next_owner) c.in-Err.error (c.in-Err.ensures.err c.self.inside.next_owner)).0)

pub returns-in-Ok-clause-sure : goal.returns-in-Ok-clause-sure
returns-in-Ok-clause-sure g c = rw (← c.self.view_is) ((wait_once _ g.S.IoSource _ c.in-Some.root (live_with c.self.inside.items.items c.self.inside.slots.items c.self.inside.next_owner) (live_with c.wait_for.new.items.items c.wait_for.new.slots.items c.self.inside.next_owner) (c.in-Ok.ensures.ok c.self.inside.next_owner)).1)

pub returns-in-Err-clause-sure : goal.returns-in-Err-clause-sure
returns-in-Err-clause-sure g c = rw (← c.self.view_is) ((wait_fails_once _ g.S.IoSource _ c.in-Some.root (live_with c.self.inside.items.items c.self.inside.slots.items c.self.inside.next_owner) (live_with c.wait_for.new.items.items c.wait_for.new.slots.items c.self.inside.next_owner) c.in-Err.error (c.in-Err.ensures.err c.self.inside.next_owner)).1)
