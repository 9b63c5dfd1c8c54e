use Rattle.std.proofs.Common.{◌≡◌, ◌∙◌, refl, subst, true, Some, slice_get}
use Rattle.std.proofs.lemmas.Option.{get_or_from_slice_get, slice_get_read}
use Rattle.vortex_scan.specs.Asking.{is_live}
use Rattle.vortex_scan.specs.declared.item.Slot.{Slot}
use Rattle.vortex_scan.proofs.Kept.{each_same}
use Rattle.vortex_scan.proofs.Outcomes.{if_err, if_ok}
use Rattle.vortex_scan.proofs.ask.ask_if_live.Goals as goal

pub returns-then-not-index-clause-sources : goal.returns-then-not-index-clause-sources
returns-then-not-index-clause-sources g c = each_same g.S.IoSource c.args.slots.now.items

pub ask-requires-clause-live : goal.ask-requires-clause-live
ask-requires-clause-live g c = λ slot at.
    let same : c.index.result.now ≡ slot = c.index.ensures ∙ get_or_from_slice_get c.args.slots.now.items c.args.root slot c.index.result.now at in
    subst (λ (s : Slot _). s.live ≡ true) same c.if-not-index.false

pub returns-clause-ok : goal.returns-clause-ok
returns-clause-ok g c =
    if_ok _ _ c.ask.result (λ came asks. λ owners.
    let there : slice_get c.args.slots.now.items c.args.root ≡ Some c.index.result.now = slice_get_read _ _ _ _ refl c.requires c.index.ensures in
    let live : is_live (slice_get c.args.slots.now.items c.args.root) ≡ true = rw there c.if-not-index.false in
    rw live (asks owners)) c.ask.ensures.ok

pub returns-clause-err : goal.returns-clause-err
returns-clause-err g c =
    if_err _ _ c.ask.result (λ why fails. λ owners.
    let there : slice_get c.args.slots.now.items c.args.root ≡ Some c.index.result.now = slice_get_read _ _ _ _ refl c.requires c.index.ensures in
    let live : is_live (slice_get c.args.slots.now.items c.args.root) ≡ true = rw there c.if-not-index.false in
    (live, fails owners)) c.ask.ensures.err
