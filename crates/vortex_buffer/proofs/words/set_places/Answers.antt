use Rattle.std.proofs.Common.{arith, refl, sym, ◌∙◌, ◌<◌, ◌/◌, length, get_or}
use Rattle.std.proofs.lemmas.List.Elements.{All-get_or}
use Rattle.vortex_buffer.proofs.Places.{bits_at-none, place_more}
use Rattle.vortex_buffer.proofs.words.set_places.Goals as goal

pub loop-place-init : goal.loop-place-init
loop-place-init c = c.requires.unset ∙ sym (bits_at-none c.args.len)

pub loop-place-preserved : goal.loop-place-preserved
loop-place-preserved c =
    let place = get_or c.args.places.now c.loop-place.place-index 0 in
    let inside : place < c.args.len = All-get_or (λ p. p < c.args.len) c.args.places.now c.loop-place.place-index 0 (omega arith) c.requires.within in
    let within : place / 64 < length c.loop-place.words = omega (arith, c.requires.room, c.loop-place.auto.words) in
    place_more c.args.len c.loop-place.words c.args.places.now c.loop-place.place-index place within (omega arith) refl c.loop-place.invariant
