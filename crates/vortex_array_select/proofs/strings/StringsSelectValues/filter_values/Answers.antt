use Rattle.std.proofs.Common.{sym}
use Rattle.vortex_buffer.specs.Mask.{mask_bits}
use Rattle.vortex_array_kinds.specs.StringValues.{IsString, string_value}
use Rattle.vortex_array_rows.proofs.Kept.{kept_by-map}
use Rattle.vortex_array_select.proofs.StringRows.{all-kept}
use Rattle.vortex_array_select.proofs.strings.StringsSelectValues.filter_values.Goals as goal

pub new-requires : goal.new-requires
new-requires c = rw (c.kind.ensures, c.in_ok-kept.ensures.ok, c.lists.ensures.value) (all-kept (IsString c.args.self.now.kind) (mask_bits c.args.mask.now) c.args.self.now.lists c.lists.ensures.texts)

pub returns-clause-items : goal.returns-clause-items
returns-clause-items c =
    rw (c.new.ensures, c.kind.ensures, c.in_ok-kept.ensures.ok, c.lists.ensures.value)
    (sym (kept_by-map (string_value c.args.self.now.kind) (mask_bits c.args.mask.now) c.args.self.now.lists))
