use Rattle.std.proofs.Common.{◌<◌, ◌∙◌, ap, sym, false, get_or, length}
use Rattle.std.proofs.lemmas.List.{length-map}
use Rattle.vortex_array_rows.proofs.Taken.{place_below, mapped_at}
use Rattle.vortex_dict.proofs.lookup.TruthsAtIndexedSource.get.Goals as goal

pub bounds-self-place : goal.bounds-self-place
bounds-self-place g c =
    let s = c.args.self.now in
    let inside : c.args.i < length s.codes.now = simp length-map at c.requires in
    let low = place_below g.P.RowIndex.place (length s.truths.now) s.codes.now c.args.i c.index-self-i.result s.within inside c.index-self-i.is in
    let number = c.place.ensures ∙ ap g.P.RowIndex.place (sym c.index-self-i.is) in
    rw number low

pub returns : goal.returns
returns g c =
    let s = c.args.self.now in
    let f = g.P.RowIndex.place in
    mapped_at (λ place. get_or s.truths.now place false) f s.codes.now c.args.i c.index-self-i.result (get_or s.truths.now c.place.result false) c.index-self-i.is (ap (λ n. get_or s.truths.now n false) (c.place.ensures ∙ ap f (sym c.index-self-i.is)))
