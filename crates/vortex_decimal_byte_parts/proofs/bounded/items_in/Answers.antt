use Rattle.std.proofs.Common.{◌≡◌, ◌∙◌, FitsSigned, ap, length, map, of_z, rules, sym, to_z}
use Rattle.std.specs.Int.{int_max, int_min, w128}
use Rattle.std.proofs.lemmas.Int.{to_z-of_z}
use Rattle.std.proofs.lemmas.List.{length-map}
use Rattle.vortex_array_types.specs.Widths.{greatest, least}
use Rattle.vortex_decimal_byte_parts.proofs.WidthIntervals.{bits-all, bits-none, bits-some, first-of, last-of}
use Rattle.vortex_decimal_byte_parts.proofs.bounded.items_in.Goals as goal

pub returns-then-least-greatest : goal.returns-then-least-greatest
returns-then-least-greatest g c =
    let i = c.args.interval in
    let width = g.T.NativeValue.width in
    let first = c.max-least.result in
    let last = c.min-greatest.result in
    let fits-first : FitsSigned w128 first = search rules in
    let fits-last : FitsSigned w128 last = search rules in
    let fits-least : FitsSigned w128 i.least = search rules in
    let fits-greatest : FitsSigned w128 i.greatest = search rules in
    let fits-min : FitsSigned w128 c.min_value.result = search rules in
    let fits-max : FitsSigned w128 c.max_value.result = search rules in
    let low : to_z w128 (of_z w128 first) ≡ int_max i.least (least width) =
    to_z-of_z w128 first fits-first
    ∙ c.max-least.ensures.value
    ∙ ap (λ x. int_max x (to_z w128 (of_z w128 c.min_value.result))) (to_z-of_z w128 i.least fits-least)
    ∙ ap (int_max i.least) (to_z-of_z w128 c.min_value.result fits-min ∙ c.min_value.ensures.value ∙ ap least c.ptype-width.ensures) in
    let high : to_z w128 (of_z w128 last) ≡ int_min i.greatest (greatest width) =
    to_z-of_z w128 last fits-last
    ∙ c.min-greatest.ensures.value
    ∙ ap (λ x. int_min x (to_z w128 (of_z w128 c.max_value.result))) (to_z-of_z w128 i.greatest fits-greatest)
    ∙ ap (int_min i.greatest) (to_z-of_z w128 c.max_value.result fits-max ∙ c.max_value.ensures.value ∙ ap greatest c.ptype-width.ensures) in
    let numbers = map g.T.NativeValue.number c.args.items.now in
    let many : length c.args.items.now ≡ length numbers = sym (length-map c.args.items.now g.T.NativeValue.number) in
    bits-none width i numbers c.in_ok-bits.bits (length c.args.items.now) (to_z w128 (of_z w128 first)) (to_z w128 (of_z w128 last)) c.requires.inside low high c.if-least-greatest.true c.items_fit.ensures many c.in_ok-bits.ensures

pub returns-then-greatest-max_value : goal.returns-then-greatest-max_value
returns-then-greatest-max_value g c =
    let i = c.args.interval in
    let width = g.T.NativeValue.width in
    let first = c.max-least.result in
    let last = c.min-greatest.result in
    let fits-first : FitsSigned w128 first = search rules in
    let fits-last : FitsSigned w128 last = search rules in
    let fits-least : FitsSigned w128 i.least = search rules in
    let fits-greatest : FitsSigned w128 i.greatest = search rules in
    let fits-min : FitsSigned w128 c.min_value.result = search rules in
    let fits-max : FitsSigned w128 c.max_value.result = search rules in
    let low : to_z w128 (of_z w128 first) ≡ int_max i.least (least width) =
    to_z-of_z w128 first fits-first
    ∙ c.max-least.ensures.value
    ∙ ap (λ x. int_max x (to_z w128 (of_z w128 c.min_value.result))) (to_z-of_z w128 i.least fits-least)
    ∙ ap (int_max i.least) (to_z-of_z w128 c.min_value.result fits-min ∙ c.min_value.ensures.value ∙ ap least c.ptype-width.ensures) in
    let high : to_z w128 (of_z w128 last) ≡ int_min i.greatest (greatest width) =
    to_z-of_z w128 last fits-last
    ∙ c.min-greatest.ensures.value
    ∙ ap (λ x. int_min x (to_z w128 (of_z w128 c.max_value.result))) (to_z-of_z w128 i.greatest fits-greatest)
    ∙ ap (int_min i.greatest) (to_z-of_z w128 c.max_value.result fits-max ∙ c.max_value.ensures.value ∙ ap greatest c.ptype-width.ensures) in
    let numbers = map g.T.NativeValue.number c.args.items.now in
    let many : length c.args.items.now ≡ length numbers = sym (length-map c.args.items.now g.T.NativeValue.number) in
    let fits-least-width : FitsSigned w128 c.min_value-2.result = search rules in
    let fits-greatest-width : FitsSigned w128 c.max_value-then-least-min_value.result = search rules in
    let at-least : to_z w128 (of_z w128 first) ≡ least width = ap (to_z w128) c.if-least-min_value.true ∙ to_z-of_z w128 c.min_value-2.result fits-least-width ∙ c.min_value-2.ensures.value ∙ ap least c.ptype-width.ensures in
    let at-most : to_z w128 (of_z w128 last) ≡ greatest width =
    ap (to_z w128) c.if-greatest-max_value.true ∙ to_z-of_z w128 c.max_value-then-least-min_value.result fits-greatest-width ∙ c.max_value-then-least-min_value.ensures.value ∙ ap greatest c.ptype-width.ensures in
    bits-all width i numbers c.in_ok-bits-2.bits (length c.args.items.now) (to_z w128 (of_z w128 first)) (to_z w128 (of_z w128 last)) c.requires.inside low high at-least at-most c.items_fit.ensures many c.in_ok-bits-2.ensures

pub items_within-requires-clause-least : goal.items_within-requires-clause-least
items_within-requires-clause-least g c =
    let i = c.args.interval in
    let width = g.T.NativeValue.width in
    let first = c.max-least.result in
    let last = c.min-greatest.result in
    let fits-first : FitsSigned w128 first = search rules in
    let fits-last : FitsSigned w128 last = search rules in
    let fits-least : FitsSigned w128 i.least = search rules in
    let fits-greatest : FitsSigned w128 i.greatest = search rules in
    let fits-min : FitsSigned w128 c.min_value.result = search rules in
    let fits-max : FitsSigned w128 c.max_value.result = search rules in
    let low : to_z w128 (of_z w128 first) ≡ int_max i.least (least width) =
    to_z-of_z w128 first fits-first
    ∙ c.max-least.ensures.value
    ∙ ap (λ x. int_max x (to_z w128 (of_z w128 c.min_value.result))) (to_z-of_z w128 i.least fits-least)
    ∙ ap (int_max i.least) (to_z-of_z w128 c.min_value.result fits-min ∙ c.min_value.ensures.value ∙ ap least c.ptype-width.ensures) in
    let high : to_z w128 (of_z w128 last) ≡ int_min i.greatest (greatest width) =
    to_z-of_z w128 last fits-last
    ∙ c.min-greatest.ensures.value
    ∙ ap (λ x. int_min x (to_z w128 (of_z w128 c.max_value.result))) (to_z-of_z w128 i.greatest fits-greatest)
    ∙ ap (int_min i.greatest) (to_z-of_z w128 c.max_value.result fits-max ∙ c.max_value.ensures.value ∙ ap greatest c.ptype-width.ensures) in
    first-of width i (to_z w128 (of_z w128 first)) (to_z w128 (of_z w128 last)) low high c.if-least-greatest.false

pub items_within-requires-clause-greatest : goal.items_within-requires-clause-greatest
items_within-requires-clause-greatest g c =
    let i = c.args.interval in
    let width = g.T.NativeValue.width in
    let first = c.max-least.result in
    let last = c.min-greatest.result in
    let fits-first : FitsSigned w128 first = search rules in
    let fits-last : FitsSigned w128 last = search rules in
    let fits-least : FitsSigned w128 i.least = search rules in
    let fits-greatest : FitsSigned w128 i.greatest = search rules in
    let fits-min : FitsSigned w128 c.min_value.result = search rules in
    let fits-max : FitsSigned w128 c.max_value.result = search rules in
    let low : to_z w128 (of_z w128 first) ≡ int_max i.least (least width) =
    to_z-of_z w128 first fits-first
    ∙ c.max-least.ensures.value
    ∙ ap (λ x. int_max x (to_z w128 (of_z w128 c.min_value.result))) (to_z-of_z w128 i.least fits-least)
    ∙ ap (int_max i.least) (to_z-of_z w128 c.min_value.result fits-min ∙ c.min_value.ensures.value ∙ ap least c.ptype-width.ensures) in
    let high : to_z w128 (of_z w128 last) ≡ int_min i.greatest (greatest width) =
    to_z-of_z w128 last fits-last
    ∙ c.min-greatest.ensures.value
    ∙ ap (λ x. int_min x (to_z w128 (of_z w128 c.max_value.result))) (to_z-of_z w128 i.greatest fits-greatest)
    ∙ ap (int_min i.greatest) (to_z-of_z w128 c.max_value.result fits-max ∙ c.max_value.ensures.value ∙ ap greatest c.ptype-width.ensures) in
    last-of width i (to_z w128 (of_z w128 first)) (to_z w128 (of_z w128 last)) low high c.if-least-greatest.false

pub returns : goal.returns
returns g c =
    let i = c.args.interval in
    let width = g.T.NativeValue.width in
    let first = c.max-least.result in
    let last = c.min-greatest.result in
    let fits-first : FitsSigned w128 first = search rules in
    let fits-last : FitsSigned w128 last = search rules in
    let fits-least : FitsSigned w128 i.least = search rules in
    let fits-greatest : FitsSigned w128 i.greatest = search rules in
    let fits-min : FitsSigned w128 c.min_value.result = search rules in
    let fits-max : FitsSigned w128 c.max_value.result = search rules in
    let low : to_z w128 (of_z w128 first) ≡ int_max i.least (least width) =
    to_z-of_z w128 first fits-first
    ∙ c.max-least.ensures.value
    ∙ ap (λ x. int_max x (to_z w128 (of_z w128 c.min_value.result))) (to_z-of_z w128 i.least fits-least)
    ∙ ap (int_max i.least) (to_z-of_z w128 c.min_value.result fits-min ∙ c.min_value.ensures.value ∙ ap least c.ptype-width.ensures) in
    let high : to_z w128 (of_z w128 last) ≡ int_min i.greatest (greatest width) =
    to_z-of_z w128 last fits-last
    ∙ c.min-greatest.ensures.value
    ∙ ap (λ x. int_min x (to_z w128 (of_z w128 c.max_value.result))) (to_z-of_z w128 i.greatest fits-greatest)
    ∙ ap (int_min i.greatest) (to_z-of_z w128 c.max_value.result fits-max ∙ c.max_value.ensures.value ∙ ap greatest c.ptype-width.ensures) in
    bits-some width i (map g.T.NativeValue.number c.args.items.now) c.in_ok-bits-3.bits (to_z w128 (of_z w128 first)) (to_z w128 (of_z w128 last)) c.requires.inside low high c.items_fit.ensures c.in_ok-bits-3.ensures
