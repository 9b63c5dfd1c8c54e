use Rattle.std.proofs.Common.{map}
use Rattle.vortex_dict.proofs.TruthsTaken.{places-of-bits, truths-long, truths-taken}
use Rattle.vortex_dict.proofs.truths.truths_at_places.Goals as goal

pub bits_at-requires-clause-within : goal.bits_at-requires-clause-within
bits_at-requires-clause-within g c =
    rw c.bits.ensures.value (places-of-bits c.args.truths.now c.args.nulls.now (map g.P.RowIndex.place c.args.places.now) c.bits.ensures.fits c.requires.within)

pub validity_at-requires-clause-within : goal.validity_at-requires-clause-within
validity_at-requires-clause-within g c =
    places-of-bits c.args.truths.now c.args.nulls.now (map g.P.RowIndex.place c.args.places.now) c.bits.ensures.fits c.requires.within

pub new-requires : goal.new-requires
new-requires g c =
    let a = c.args.truths.now in
    let f = g.P.RowIndex.place in
    let below = places-of-bits a c.args.nulls.now (map f c.args.places.now) c.bits.ensures.fits c.requires.within in
    rw c.in_ok-validity.ensures (truths-long f a c.args.nulls.now c.args.places.now c.in_ok-bits.bits c.requires.long below (rw c.bits.ensures.value at c.in_ok-bits.ensures))

pub returns : goal.returns
returns g c =
    let a = c.args.truths.now in
    let f = g.P.RowIndex.place in
    let below = places-of-bits a c.args.nulls.now (map f c.args.places.now) c.bits.ensures.fits c.requires.within in
    rw (c.new.ensures, c.in_ok-validity.ensures) (truths-taken f a c.args.nulls.now c.args.places.now c.in_ok-bits.bits c.requires.long below (rw c.bits.ensures.value at c.in_ok-bits.ensures))
