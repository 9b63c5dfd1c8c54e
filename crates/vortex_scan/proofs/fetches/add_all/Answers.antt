use Rattle.std.proofs.Common.{◌≡◌, Ok, false, rules, ap}
use Rattle.std.proofs.lemmas.Option.{slice_get-get_or}
use Rattle.vortex_scan.proofs.Repeats.{repeats_one_more}
use Rattle.vortex_scan.proofs.fetches.add_all.Goals as goal

pub returns-then-not-branch-clause-repeated : goal.returns-then-not-branch-clause-repeated
returns-then-not-branch-clause-repeated c = λ _.
    let told = c.in_ok-add.ensures.repeated in
    repeats_one_more c.args.items.now.items c.loop-request.items.items c.args.owner c.args.batch.now c.loop-request.request-index _
    (slice_get-get_or c.args.batch.now c.loop-request.request-index _ c.loop-request-test.true) c.loop-request.invariant.added
    (told (let no : c.in_ok-add.field-0 ≡ false = search rules in ap (λ b. Ok b) no))
