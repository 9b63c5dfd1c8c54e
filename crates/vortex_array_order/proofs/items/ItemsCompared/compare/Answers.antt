use Rattle.std.proofs.Common.{◌<◌, get_or, length, rules}
use Rattle.vortex_array_order.proofs.RowsUnder.{item-at, item-inside}
use Rattle.vortex_array_order.proofs.items.ItemsCompared.compare.Goals as goal

pub bounds-self-i : goal.bounds-self-i
bounds-self-i g c = item-inside g.R.Reading.value g.R.Reading.number c.args.self.now.items.now c.args.i c.requires.first

pub bounds-self-j : goal.bounds-self-j
bounds-self-j g c = item-inside g.R.Reading.value g.R.Reading.number c.args.self.now.items.now c.args.j c.requires.second

pub offset_bounds-self-i : goal.offset_bounds-self-i
offset_bounds-self-i g c =
    let inside : c.args.i < length c.args.self.now.items.now = item-inside g.R.Reading.value g.R.Reading.number c.args.self.now.items.now c.args.i c.requires.first in
    search rules

pub offset_bounds-self-j : goal.offset_bounds-self-j
offset_bounds-self-j g c =
    let inside : c.args.j < length c.args.self.now.items.now = item-inside g.R.Reading.value g.R.Reading.number c.args.self.now.items.now c.args.j c.requires.second in
    search rules

pub returns : goal.returns
returns g c =
    let items = c.args.self.now.items.now in
    rw (item-at g.R.Reading.value g.R.Reading.number items c.args.i c.index-self-i.result c.requires.first, item-at g.R.Reading.value g.R.Reading.number items c.args.j c.index-self-j.result c.requires.second, c.cmp.ensures)
    (g.met.R.Reading.ordered (get_or items c.args.i c.index-self-i.result) (get_or items c.args.j c.index-self-j.result))
