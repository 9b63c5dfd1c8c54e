use Rattle.std.proofs.Common.{sym, refl, inl, inr}
use Rattle.vortex_scan.specs.Steps.{expects}
use Rattle.vortex_scan.proofs.Places.{none_at}
use Rattle.vortex_scan.proofs.Delivering.{delivers, delivers_in_vain, expected}
use Rattle.vortex_scan.proofs.deliver.deliver.Goals as goal

pub returns-in_default : goal.returns-in_default
returns-in_default g c = inl (refl, none_at (expects c.args.root c.args.completion) c.args.items.now.items (rw c.deref.ensures.value at (sym c.in_default.ensures)))

pub hand-requires : goal.hand-requires
hand-requires g c = (expected c.args.root c.args.completion c.args.items.now.items c.in-Some.at c.index_mut-item.result.now (rw c.deref.ensures.value at (sym c.in-Some.ensures)) c.index_mut-item.ensures.value).2

pub returns-then-hand : goal.returns-then-hand
returns-then-hand g c =
    let e = expected c.args.root c.args.completion c.args.items.now.items c.in-Some.at c.index_mut-item.result.now (rw c.deref.ensures.value at (sym c.in-Some.ensures)) c.index_mut-item.ensures.value in
    let did = c.hand.ensures in
    let both = did.4.0 c.if-hand.true in
    inr (refl, delivers_in_vain g.W.Worker c.args.root c.args.completion c.args.items.now.items c.in-Some.at c.index_mut-item.result.now c.hand.new.item did.0 did.1 e.0 e.1 did.2 did.3 both.0 both.1)

pub returns : goal.returns
returns g c =
    let e = expected c.args.root c.args.completion c.args.items.now.items c.in-Some.at c.index_mut-item.result.now (rw c.deref.ensures.value at (sym c.in-Some.ensures)) c.index_mut-item.ensures.value in
    let did = c.hand.ensures in
    delivers g.W.Worker c.args.root c.args.completion c.args.items.now.items c.in-Some.at c.index_mut-item.result.now c.hand.new.item did.0 did.1 e.0 e.1 did.2 did.3 c.hand.result did.4.1 c.if-hand.false
