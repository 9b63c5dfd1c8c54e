use Rattle.std.proofs.Common.{ℕ, ◌≡◌, ◌<◌, ◌≤◌, ◌∙◌, ap, get_or, length, map, refl, subst, sym, true}
use Rattle.std.proofs.lemmas.List.{get_or-map, length-map}
use Rattle.vortex_array_types.specs.Row.{Column}
use Rattle.vortex_array_kinds.specs.Validities.{valid_at}
use Rattle.vortex_array.proofs.NamedRows.{below-numbers}
use Rattle.vortex_array.proofs.TakenAt.{same-indices}
use Rattle.vortex_dict.specs.Refused.{FirstOutside}
use Rattle.vortex_dict.proofs.Refusals.{first-place}
use Rattle.vortex_dict.proofs.codes.outside.Goals as goal

pub returns-in-Some-clause-some : goal.returns-in-Some-clause-some
returns-in-Some-clause-some g c =
    let places = c.args.places.now in
    let f = g.P.RowIndex.place in
    let row : ℕ = c.in-Some.row in
    let inside : row < length places = rw c.as_slice.ensures at c.in-Some.ensures.within in
    let out : c.args.bound ≤ get_or (map f places) row 0 = rw c.as_slice.ensures at c.in-Some.ensures.outside in
    let before : (k : ℕ) → k < row → valid_at c.args.nulls.now k ≡ true → get_or (map f places) k 0 < c.args.bound = rw c.as_slice.ensures at c.in-Some.ensures.before in
    let code : c.place.result ≡ get_or (map f places) row 0 = c.place.ensures ∙ ap f c.get.ensures ∙ sym (get_or-map f places row c.get.result 0 inside) in (
      refl,
      subst (λ (codes : Column). FirstOutside codes.rows c.args.bound row c.place.result) (same-indices f c.args.nulls.now places)
          (first-place c.args.bound c.args.nulls.now (map f places) row c.place.result (rw (length-map places f) inside) c.in-Some.ensures.present code out before),
    )

pub returns-in-None-clause-none : goal.returns-in-None-clause-none
returns-in-None-clause-none g c =
    below-numbers g.P.RowIndex.place c.args.bound c.args.nulls.now c.args.places.now (rw c.as_slice.ensures at c.in-None.ensures.none)
