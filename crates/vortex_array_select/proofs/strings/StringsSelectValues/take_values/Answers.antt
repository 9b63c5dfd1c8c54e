use Rattle.std.proofs.Common.{[], map}
use Rattle.vortex_array_kinds.specs.StringValues.{IsString, string_value}
use Rattle.vortex_array_select.proofs.StringRows.{empty-string}
use Rattle.vortex_array_select.proofs.TakenRows.{all-taken, are-taken-read, long-places}
use Rattle.vortex_array_select.proofs.strings.StringsSelectValues.take_values.Goals as goal

pub new-requires : goal.new-requires
new-requires g c =
    let s = c.args.self.now in
    rw (c.kind.ensures, c.in_ok-part.ensures, c.lists.ensures.value)
    (all-taken (IsString s.kind) [] c.args.nulls.now s.lists (map g.P.RowIndex.place c.args.places.now) (long-places g.P.RowIndex.place c.args.nulls.now c.args.places.now c.requires.long) (empty-string s.kind) c.lists.ensures.texts)

pub returns-clause-items : goal.returns-clause-items
returns-clause-items g c =
    let s = c.args.self.now in
    rw (c.new.ensures, c.kind.ensures)
    (are-taken-read (string_value s.kind) g.P.RowIndex.place [] c.args.nulls.now s.lists c.in_ok-part.part c.args.places.now c.requires.long c.requires.within (rw c.lists.ensures.value at c.in_ok-part.ensures))
