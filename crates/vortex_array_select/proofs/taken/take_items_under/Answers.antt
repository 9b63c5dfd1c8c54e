use Rattle.std.proofs.Common.{◌∙◌, map}
use Rattle.std.proofs.lemmas.Result.{IfOk-weaker}
use Rattle.vortex_array_select.proofs.TakenRows.{present-taken}
use Rattle.vortex_array_select.proofs.taken.take_items_under.Goals as goal

pub returns-in-NonNullable : goal.returns-in-NonNullable
returns-in-NonNullable g c =
    let places = map g.P.RowIndex.place c.args.places.now in
    IfOk-weaker c.take_items.result _ _ (λ taken h. h c.args.default ∙ present-taken c.args.default c.args.nulls.now c.args.items.now places c.in-NonNullable.is) c.take_items.ensures.ok
