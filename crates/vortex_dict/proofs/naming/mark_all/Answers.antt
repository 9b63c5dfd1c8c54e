use Rattle.std.proofs.Common.{◌≡◌, ◌<◌, ◌∙◌, ap, arith, length, map, subst, sym, true}
use Rattle.std.proofs.lemmas.List.{get_or-map, length-map}
use Rattle.vortex_array_select.proofs.TakenRows.{place-below}
use Rattle.vortex_dict.specs.NamedValues.{MarkFirst}
use Rattle.vortex_dict.proofs.Marks.{marks-none, marks-step, none-null}
use Rattle.vortex_dict.proofs.naming.mark_all.Goals as goal

pub loop-row-init : goal.loop-row-init
loop-row-init g c = marks-none c.args.nulls.now (map g.P.RowIndex.place c.args.places.now) c.args.marks.now c.requires.unmarked

pub bounds-marks-place : goal.bounds-marks-place
bounds-marks-place g c =
    let f = g.P.RowIndex.place in
    let places = c.args.places.now in
    let row = c.loop-row.row in
    let inside : row < length places = omega arith in
    let valid = none-null c.args.nulls.now row c.requires.full in
    let code = ap f c.index-places-row.is ∙ sym (get_or-map f places row c.index-places-row.result 0 inside) in
    let below = place-below (length c.args.marks.now) c.args.nulls.now (map f places) row c.requires.below (rw (length-map places f) inside) valid in
    omega (arith, below, code, c.place.ensures, c.loop-row.auto.marks)

pub loop-row-preserved : goal.loop-row-preserved
loop-row-preserved g c =
    let f = g.P.RowIndex.place in
    let places = c.args.places.now in
    let row = c.loop-row.row in
    let inside : row < length places = omega arith in
    let valid = none-null c.args.nulls.now row c.requires.full in
    let code = c.place.ensures ∙ ap f c.index-places-row.is ∙ sym (get_or-map f places row c.index-places-row.result 0 inside) in
    let below = place-below (length c.args.marks.now) c.args.nulls.now (map f places) row c.requires.below (rw (length-map places f) inside) valid in
    marks-step c.args.nulls.now (map f places) row c.loop-row.marks true c.place.result (sym valid) code
    (λ set. omega (arith, below, code, c.loop-row.auto.marks))
    c.loop-row.invariant

pub returns : goal.returns
returns g c =
    let f = g.P.RowIndex.place in
    let all : c.loop-row.row ≡ length (map f c.args.places.now) = omega (arith, length-map c.args.places.now f) in
    subst (λ n. MarkFirst c.args.nulls.now (map f c.args.places.now) n c.loop-row.marks) all c.loop-row.invariant
