use Rattle.std.proofs.Common.{◌≡◌, ◌∙◌, ap, sym, true, false, []}
use Rattle.std.proofs.lemmas.Option.{IfSome_then}
use Rattle.vortex_array_kinds.specs.StringValues.{string_value}
use Rattle.vortex_array_kinds.specs.Validities.{nullability_of, valid_at}
use Rattle.vortex_dict_builders.proofs.EntryLemmas.{plain-row}
use Rattle.vortex_dict_builders.proofs.IndexLemmas.{null-nowhere, null-stands}
use Rattle.vortex_dict_builders.proofs.RowEntries.{list-nowhere, list-row, list-stands}
use Rattle.vortex_dict_builders.proofs.Succeeds.{none-then}
use Rattle.vortex_dict_builders.proofs.strings.StringEntriesEntries.place_of.Goals as goal

pub returns-then-is_valid-clause-none : goal.returns-then-is_valid-clause-none
returns-then-is_valid-clause-none c =
    let s = c.args.self.now in
    let rows = c.args.rows.now in
    let valid : valid_at rows.validity c.args.i ≡ true = sym (c.is_valid.ensures ∙ ap (λ v. valid_at v c.args.i) c.validity.ensures.value) ∙ c.if-is_valid.true in
    let row = list-row s.values.kind rows.values.kind (nullability_of rows.validity) (nullability_of s.validity) rows.validity rows.values.lists c.args.i c.list_at.result.now c.requires.same_type c.validity.ensures.fits c.requires.inside valid c.list_at.ensures.value in
    none-then c.place_of_list.result (list-nowhere s.values.kind s.validity s.values.lists c.list_at.result.now _ c.count.ensures.grows row) c.place_of_list.ensures.none

pub returns-then-is_valid-clause-some : goal.returns-then-is_valid-clause-some
returns-then-is_valid-clause-some c =
    let s = c.args.self.now in
    let rows = c.args.rows.now in
    let valid : valid_at rows.validity c.args.i ≡ true = sym (c.is_valid.ensures ∙ ap (λ v. valid_at v c.args.i) c.validity.ensures.value) ∙ c.if-is_valid.true in
    let row = list-row s.values.kind rows.values.kind (nullability_of rows.validity) (nullability_of s.validity) rows.validity rows.values.lists c.args.i c.list_at.result.now c.requires.same_type c.validity.ensures.fits c.requires.inside valid c.list_at.ensures.value in
    IfSome_then c.place_of_list.result c.place_of_list.ensures.some (λ p. list-stands s.values.kind s.validity s.values.lists c.list_at.result.now _ p c.count.ensures.grows row)

pub returns-else-is_valid-clause-none : goal.returns-else-is_valid-clause-none
returns-else-is_valid-clause-none c =
    let s = c.args.self.now in
    let rows = c.args.rows.now in
    let null : valid_at rows.validity c.args.i ≡ false = sym (c.is_valid.ensures ∙ ap (λ v. valid_at v c.args.i) c.validity.ensures.value) ∙ c.if-is_valid.false in
    let row = plain-row (string_value rows.values.kind) rows.validity rows.values.lists c.args.i [] false c.validity.ensures.fits c.requires.inside null in
    rw row (none-then c.place_of_null.result (null-nowhere (string_value s.values.kind) s.validity s.values.lists c.count.ensures.grows) c.place_of_null.ensures.none)

pub returns-else-is_valid-clause-some : goal.returns-else-is_valid-clause-some
returns-else-is_valid-clause-some c =
    let s = c.args.self.now in
    let rows = c.args.rows.now in
    let null : valid_at rows.validity c.args.i ≡ false = sym (c.is_valid.ensures ∙ ap (λ v. valid_at v c.args.i) c.validity.ensures.value) ∙ c.if-is_valid.false in
    let row = plain-row (string_value rows.values.kind) rows.validity rows.values.lists c.args.i [] false c.validity.ensures.fits c.requires.inside null in
    rw row (IfSome_then c.place_of_null.result c.place_of_null.ensures.some (λ p. null-stands (string_value s.values.kind) s.validity s.values.lists p c.count.ensures.grows))
