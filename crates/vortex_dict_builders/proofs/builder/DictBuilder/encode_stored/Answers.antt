use Rattle.std.proofs.Common.{◌≡◌, ◌∙◌, true, ap, map, subst}
use Rattle.vortex_array_types.specs.Widths.{has_no_sign}
use Rattle.vortex_array_types.specs.declared.types.PType.{PType}
use Rattle.vortex_array_kinds.specs.Kinds.{plain_column}
use Rattle.vortex_dict_builders.specs.Building.{code_column}
use Rattle.vortex_dict_builders.specs.Encodes.{Encodes}
use Rattle.vortex_dict_builders.proofs.EncodingLemmas.{encodes-codes}
use Rattle.vortex_dict_builders.proofs.builder.DictBuilder.encode_stored.Goals as goal

pub returns-clause-ok : goal.returns-clause-ok
returns-clause-ok g c =
    let old = c.args.self.now in
    let rows = (plain_column g.E.Stored.Values.type_of g.E.Stored.Values.items c.args.rows.now).rows in
    let numbers = map g.Code.NativeValue.number c.in_ok-codes.codes.items in
    let width = c.codes_of.ensures.width in
    let unsigned : has_no_sign old.width ≡ true = ap has_no_sign width ∙ g.met.Code.CodeType.unsigned in
    rw (c.code_array.ensures)
    (subst (λ (w : PType). Encodes old rows (code_column w numbers) c.codes_of.new.self) width (encodes-codes old c.codes_of.new.self rows numbers unsigned c.in_ok-codes.ensures.ok))
