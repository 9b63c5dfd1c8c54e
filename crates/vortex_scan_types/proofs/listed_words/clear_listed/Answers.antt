use Rattle.std.proofs.Common.{arith, refl, get_or, length, ◌*◌, ◌<◌}
use Rattle.std.proofs.lemmas.List.Elements.{All-get_or}
use Rattle.vortex_scan_types.specs.Listed.{LiesWithin}
use Rattle.vortex_scan_types.proofs.Words.{clear_one_more}
use Rattle.vortex_scan_types.proofs.listed_words.clear_listed.Goals as goal

pub loop-place-preserved : goal.loop-place-preserved
loop-place-preserved c = λ i.
    let k = c.loop-place.place-index in
    let place = get_or c.args.listed.now k 0 in
    let inside : k < length c.args.listed.now = omega (arith, c.loop-place-test.true) in
    let lies = All-get_or (LiesWithin c.args.start (64 * length c.args.words.now)) c.args.listed.now k 0 inside c.requires in
    clear_one_more c.loop-place.words c.args.words.now c.args.listed.now c.args.start k place i lies.0 (omega (arith, lies.0, lies.1, c.loop-place.auto.words)) inside refl (c.loop-place.invariant i)
