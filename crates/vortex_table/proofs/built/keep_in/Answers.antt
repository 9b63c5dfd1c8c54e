use Rattle.std.proofs.Common.{◌≡◌, sym, true}
use Rattle.std.specs.Str.{bytes_eq}
use Rattle.vortex_table.proofs.OwnCell.{only_item, own_cell}
use Rattle.vortex_table.proofs.built.keep_in.Goals as goal

pub returns-then-eq-clause-keeps : goal.returns-then-eq-clause-keeps
returns-then-eq-clause-keeps c n =
    let one = only_item c.args.columns.now c.column-item.result c.in-len1.len_at_least c.in-len1.len_below c.column-item.is in
    let same : bytes_eq c.column-item.result.name c.in-Some.name.now ≡ true = rw (← c.as_str.ensures, ← c.as_str-2.ensures) (sym c.if-eq.ensures) in
    sym (c.in-Some.ensures.keeps _ n (own_cell c.args.columns.now c.column-item.result c.in-Some.name.now _ one same))
