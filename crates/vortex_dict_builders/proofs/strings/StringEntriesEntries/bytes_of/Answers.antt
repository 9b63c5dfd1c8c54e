use Rattle.std.proofs.Common.{◌≡◌, ◌∙◌, ap, sym, true, false, []}
use Rattle.vortex_array_kinds.specs.StringValues.{string_value}
use Rattle.vortex_array_kinds.specs.Validities.{nullability_of, valid_at}
use Rattle.vortex_dict_builders.proofs.EntryLemmas.{list-cost, null-cost, plain-row}
use Rattle.vortex_dict_builders.proofs.RowEntries.{list-row}
use Rattle.vortex_dict_builders.proofs.strings.StringEntriesEntries.bytes_of.Goals as goal

pub returns-then-is_valid : goal.returns-then-is_valid
returns-then-is_valid c =
    let s = c.args.self.now in
    let rows = c.args.rows.now in
    let valid : valid_at rows.validity c.args.i ≡ true = sym (c.is_valid.ensures ∙ ap (λ v. valid_at v c.args.i) c.validity.ensures.value) ∙ c.if-is_valid.true in
    let row = list-row s.values.kind rows.values.kind (nullability_of rows.validity) (nullability_of s.validity) rows.validity rows.values.lists c.args.i c.list_at.result.now c.requires.same_type c.validity.ensures.fits c.requires.inside valid c.list_at.ensures.value in
    c.bytes_in.ensures ∙ sym (list-cost s.values.kind s.values.kind (nullability_of s.validity) c.list_at.result.now _ row)

pub returns-else-is_valid : goal.returns-else-is_valid
returns-else-is_valid c =
    let s = c.args.self.now in
    let rows = c.args.rows.now in
    let null : valid_at rows.validity c.args.i ≡ false = sym (c.is_valid.ensures ∙ ap (λ v. valid_at v c.args.i) c.validity.ensures.value) ∙ c.if-is_valid.false in
    let row = plain-row (string_value rows.values.kind) rows.validity rows.values.lists c.args.i [] false c.validity.ensures.fits c.requires.inside null in
    sym (null-cost s.values.kind (nullability_of s.validity) _ row)
