use Rattle.std.proofs.Common.{◌∙◌, map, sym}
use Rattle.std.proofs.lemmas.List.{length-map}
use Rattle.vortex_array_order.proofs.items.ItemsCompared.count.Goals as goal

pub returns : goal.returns
returns g c =
    let items = c.args.self.now.items.now in
    sym (length-map (map g.R.Reading.number items) g.R.Reading.value ∙ length-map items g.R.Reading.number)
