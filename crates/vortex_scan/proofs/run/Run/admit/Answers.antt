use Rattle.std.proofs.Common.{◌≡◌, ◌∙◌, ◌+◌, ap, refl, arith, length, length-append, [], ◌∷◌, ◌++◌, true}
use Rattle.std.proofs.lemmas.List.Sums.{sum_by_push}
use Rattle.vortex_scan.specs.Bag.{work_owed}
use Rattle.vortex_scan.specs.Steps.{root_item}
use Rattle.vortex_scan.specs.declared.worker.Work.TheVariants.{Planner}
use Rattle.vortex_scan.proofs.Bagged.{admit_bag}
use Rattle.vortex_scan.proofs.Fitting.{admit_fits}
use Rattle.vortex_scan.proofs.Joining.{admit_stays, not_failed}
use Rattle.vortex_scan.proofs.Named.{admit_named}
use Rattle.vortex_scan.proofs.Rooted.{admit_peopled}
use Rattle.vortex_scan.proofs.WholeOrder.{admit_orderly}
use Rattle.vortex_scan.specs.Seats.{work_seats}
use Rattle.vortex_scan.proofs.Noting.{admit_adds_nothing}
use Rattle.vortex_scan.proofs.Planned.{admit_planned}
use Rattle.vortex_scan.proofs.RestingSeats.{admit_fresh, admit_seats}
use Rattle.vortex_scan.proofs.run.Run.admit.Goals as goal

pub invariant_of-self : goal.invariant_of-self
invariant_of-self g c =
    let did = c.in-Ok.ensures.ok in
    let long : length c.admit_root.new.slots.items ≡ length c.self.inside.slots.items + 1 = ap length did.0 ∙ length-append c.self.inside.slots.items (record { source = c.args.io; live = true } ∷ []) in
    record {
      none = c.admit_root.ensures.room;
      enough = rw long did.2;
      fits = λ well.
          let f = c.self.invariant.fits well in
          record {
            roots = long ∙ ap (λ n. n + 1) f.roots;
            live = rw (did.0, did.1) (admit_fits g.S.IoSource c.self.inside.items.items c.self.inside.slots.items c.self.inside.next_owner c.self.inside.next_root (record { source = c.args.io; live = true })
                (root_item c.self.inside.next_root c.self.inside.next_owner c.args.scope (Planner c.args.root)) f.roots f.live refl refl refl refl refl refl);
            peopled = rw (did.0, did.1) (admit_peopled c.self.inside.items.items c.self.inside.slots.items c.self.inside.next_owner (c.self.inside.next_owner + 1) c.self.inside.next_root c.args.io
                (root_item c.self.inside.next_root c.self.inside.next_owner c.args.scope (Planner c.args.root)) f.roots refl f.peopled);
            since = f.since;
          };
      named = λ told well. rw (did.0, did.1) (admit_named _ g.S.IoSource c.self.inside.items.items c.self.inside.slots.items c.self.inside.next_owner (record { source = c.args.io; live = true })
          (root_item c.self.inside.next_root c.self.inside.next_owner c.args.scope (Planner c.args.root)) c.requires.idle refl refl (c.self.invariant.named told well));
      planned = λ told well. rw did.1 (admit_planned _ _ c.self.inside.items.items (root_item c.self.inside.next_root c.self.inside.next_owner c.args.scope (Planner c.args.root)) refl refl (c.self.invariant.planned told well));
    }

pub invariant_of-self-in-Err : goal.invariant_of-self-in-Err
invariant_of-self-in-Err g c =
    let did = c.in-Err.ensures.ok in
    record {
      none = c.admit_root.ensures.room;
      enough = rw did.0 (omega (arith, c.self.invariant.enough, c.admit_root.ensures.less));
      fits = λ well. rw (did.0, did.1) (c.self.invariant.fits well);
      named = λ told well. rw (did.0, did.1) (c.self.invariant.named told well);
      planned = λ told well. rw did.1 (c.self.invariant.planned told well);
    }

pub returns-in-Ok-clause-in_step : goal.returns-in-Ok-clause-in_step
returns-in-Ok-clause-in_step g c =
    let did = c.in-Ok.ensures.ok in
    let well = not_failed c.self.inside.failed (λ f. c.in-Ok.ensures.run_failed.1 f) in
    rw (← c.self.view_is, did.0, did.1) (admit_stays g.S.IoSource c.self.inside.items.items c.self.inside.slots.items c.self.inside.next_owner (c.self.inside.next_owner + 1) (record { source = c.args.io; live = true })
    (root_item c.self.inside.next_root c.self.inside.next_owner c.args.scope (Planner c.args.root)) (c.self.invariant.fits well).live c.requires.idle refl)

pub returns-in-Ok-clause-bag : goal.returns-in-Ok-clause-bag
returns-in-Ok-clause-bag g c =
    let did = c.in-Ok.ensures.ok in
    rw (← c.self.view_is, did.1) (admit_bag (work_owed g.P.Planner.owed g.P.Morsel.Morsel.owed) c.self.inside.items.items c.self.inside.slots.items (c.self.inside.slots.items ++ record { source = c.args.io; live = true } ∷ []) c.self.inside.next_owner (c.self.inside.next_owner + 1)
    (root_item c.self.inside.next_root c.self.inside.next_owner c.args.scope (Planner c.args.root)))

pub returns-in-Ok-clause-orderly : goal.returns-in-Ok-clause-orderly
returns-in-Ok-clause-orderly g c =
    let did = c.in-Ok.ensures.ok in
    rw (← c.self.view_is, did.1) (λ root. admit_orderly _ c.self.inside.items.items c.self.inside.slots.items (c.self.inside.slots.items ++ record { source = c.args.io; live = true } ∷ []) c.self.inside.next_owner (c.self.inside.next_owner + 1)
    (root_item c.self.inside.next_root c.self.inside.next_owner c.args.scope (Planner c.args.root)) refl root)

pub returns-in-Ok-clause-work : goal.returns-in-Ok-clause-work
returns-in-Ok-clause-work g c =
    let did = c.in-Ok.ensures.ok in
    rw (← c.self.view_is, did.1) (refl, refl, sum_by_push _ c.self.inside.items.items (root_item c.self.inside.next_root c.self.inside.next_owner c.args.scope (Planner c.args.root)))

pub returns-in-Ok-clause-seats : goal.returns-in-Ok-clause-seats
returns-in-Ok-clause-seats g c =
    let did = c.in-Ok.ensures.ok in
    rw (← c.self.view_is, did.1) (admit_seats (work_seats g.P.Planner.plan g.P.Morsel.Morsel.plan g.P.Morsel.Morsel.fresh) c.self.inside.items.items c.self.inside.slots.items (c.self.inside.slots.items ++ record { source = c.args.io; live = true } ∷ []) c.self.inside.next_owner (c.self.inside.next_owner + 1) c.self.inside.next_root c.args.scope (Planner c.args.root))

pub returns-in-Ok-clause-fresh : goal.returns-in-Ok-clause-fresh
returns-in-Ok-clause-fresh g c =
    let did = c.in-Ok.ensures.ok in
    rw (← c.self.view_is, did.1) (admit_fresh g.S.IoSource (work_seats g.P.Planner.plan g.P.Morsel.Morsel.plan g.P.Morsel.Morsel.fresh) c.self.inside.items.items (root_item c.self.inside.next_root c.self.inside.next_owner c.args.scope (Planner c.args.root)) c.self.inside.slots.items c.admit_root.new.slots.items c.self.inside.next_owner (c.self.inside.next_owner + 1))

pub returns-in-Ok-clause-journals : goal.returns-in-Ok-clause-journals
returns-in-Ok-clause-journals g c =
    let did = c.in-Ok.ensures.ok in
    rw (← c.self.view_is, did.0) ((admit_adds_nothing g.S.IoSource c.self.inside.slots.items (record { source = c.args.io; live = true })).0)

pub returns-in-Ok-clause-sure : goal.returns-in-Ok-clause-sure
returns-in-Ok-clause-sure g c =
    let did = c.in-Ok.ensures.ok in
    rw (← c.self.view_is, did.0) ((admit_adds_nothing g.S.IoSource c.self.inside.slots.items (record { source = c.args.io; live = true })).1)
