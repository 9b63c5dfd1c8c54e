use Rattle.std.proofs.Common.{arith, ◌<◌, get_or, length, map, refl, subst}
use borrow.Author.Count.{below_more}
use Rattle.std.proofs.lemmas.Bool.{false≢true}
use Rattle.std.proofs.lemmas.List.{length-map}
use Rattle.std.proofs.lemmas.List.Elements.{All-from_get_or}
use Rattle.vortex_array_rows.proofs.Taken.{number_at, place_below}
use Rattle.vortex_array_rows.proofs.places.places_below.Goals as goal

pub returns-then-place-bound : goal.returns-then-place-bound
returns-then-place-bound g c =
    (λ e. absurd (false≢true e), λ all. absurd (let low = place_below g.P.RowIndex.place c.args.bound c.args.places.now c.loop-i.i c.index-places-i.result all (omega arith) c.index-places-i.is in omega (arith, low, c.place.ensures, c.if-place-bound.true)))

pub loop-i-preserved : goal.loop-i-preserved
loop-i-preserved g c =
    let f = g.P.RowIndex.place in
    let places = c.args.places.now in
    let p = c.index-places-i.result in
    let low : f p < c.args.bound = omega (arith, c.place.ensures, c.if-place-bound.false) in
    below_more (λ k. get_or (map f places) k 0 < c.args.bound) c.loop-i.i c.loop-i.invariant (subst (λ n. n < c.args.bound) (number_at f places c.loop-i.i p (omega arith) c.index-places-i.is) low)

pub returns : goal.returns
returns g c =
    (λ e. All-from_get_or (λ place. place < c.args.bound) (map g.P.RowIndex.place c.args.places.now) 0 (λ k h. let inside : k < length c.args.places.now = simp length-map at h in c.loop-i.invariant k (omega arith)), λ all. refl)
