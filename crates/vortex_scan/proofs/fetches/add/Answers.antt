use Rattle.std.proofs.Common.{◌∙◌, sym}
use Rattle.vortex_io.specs.Source.{fetch_of}
use Rattle.vortex_scan.proofs.Repeats.{numbers_push, one_fetch}
use Rattle.vortex_scan.proofs.fetches.add.Goals as goal

pub returns-then-has_number-clause-repeated : goal.returns-then-has_number-clause-repeated
returns-then-has_number-clause-repeated c = λ _.
    rw (one_fetch c.args.owner c.args.request c.in-Fetch.is)
    (numbers_push c.args.items.now.items (fetch_of c.args.owner c.args.request) c.requires ∙ (rw c.deref.ensures.value at (sym c.has_number.ensures ∙ c.if-has_number.true)))

pub returns-in_ok-push-in-Fetch-clause-fresh : goal.returns-in_ok-push-in-Fetch-clause-fresh
returns-in_ok-push-in-Fetch-clause-fresh c = λ _.
    rw c.in_ok-push-in-Fetch.ensures.items
    (numbers_push c.args.items.now.items (fetch_of c.args.owner c.args.request) c.requires ∙ (rw c.deref.ensures.value at (sym c.has_number.ensures ∙ c.if-has_number.false)))
