use Rattle.std.proofs.Common.{sym}
use Rattle.vortex_array_kinds.specs.StringValues.{IsString, string_value}
use Rattle.vortex_array_rows.proofs.Slices.{slice-map}
use Rattle.vortex_array_select.proofs.StringRows.{all-sliced}
use Rattle.vortex_array_select.proofs.strings.StringsSelectValues.slice_values.Goals as goal

pub new-requires : goal.new-requires
new-requires c = rw (c.kind.ensures, c.in_ok-part.ensures.ok, c.lists.ensures.value) (all-sliced (IsString c.args.self.now.kind) c.args.self.now.lists c.args.start c.args.end c.lists.ensures.texts)

pub returns-clause-items : goal.returns-clause-items
returns-clause-items c =
    rw (c.new.ensures, c.kind.ensures, c.in_ok-part.ensures.ok, c.lists.ensures.value)
    (sym (slice-map (string_value c.args.self.now.kind) c.args.self.now.lists c.args.start c.args.end))
