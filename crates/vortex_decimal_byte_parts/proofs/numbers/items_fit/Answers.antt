use Rattle.std.proofs.Common.{◌<◌, arith, length, subst}
use Rattle.std.specs.Prelude.{IsTrue}
use Rattle.std.proofs.lemmas.List.{take_all}
use Rattle.std.proofs.lemmas.List.Elements.{All-map, All-more}
use Rattle.vortex_array_types.specs.Row.{in_width}
use Rattle.vortex_decimal_byte_parts.proofs.numbers.items_fit.Goals as goal

pub loop-item-preserved : goal.loop-item-preserved
loop-item-preserved g c =
    let items = c.args.items.now in
    let within : c.loop-item.item-index < length items = omega arith in
    All-more (λ x. IsTrue (in_width g.T.NativeValue.width (g.T.NativeValue.number x))) items c.loop-item.item-index c.item-item.result within c.loop-item.invariant
    (subst (λ x. IsTrue (in_width g.T.NativeValue.width (g.T.NativeValue.number x))) c.item-item.is c.value-number.ensures.within)

pub returns : goal.returns
returns g c =
    let items = c.args.items.now in
    All-map (λ n. IsTrue (in_width g.T.NativeValue.width n)) g.T.NativeValue.number items (rw (take_all c.loop-item.item-index items (omega arith)) at c.loop-item.invariant)
