use Rattle.std.proofs.Common.{◌≡◌, ◌∙◌, [], ap, refl, sym, true, false}
use Rattle.std.proofs.lemmas.Result.{on_ok_weaker}
use Rattle.vortex_array_types.specs.Row.{nullability}
use Rattle.vortex_array_kinds.specs.Kinds.{string_column}
use Rattle.vortex_array_kinds.specs.StringValues.{string_type, string_value}
use Rattle.vortex_array_kinds.specs.Validities.{nullability_of, valid_at}
use Rattle.vortex_dict_builders.proofs.EntryLemmas.{entries-more, nowhere-null, null-there-only, plain-row, string-nulls}
use Rattle.vortex_dict_builders.proofs.RowEntries.{list-absent, list-row}
use Rattle.vortex_dict_builders.proofs.strings.StringEntriesEntries.push.Goals as goal

pub push_list-requires-clause-absent : goal.push_list-requires-clause-absent
push_list-requires-clause-absent c =
    let s = c.args.self.now in
    let rows = c.args.rows.now in
    let valid : valid_at rows.validity c.args.i ≡ true = sym (c.is_valid.ensures ∙ ap (λ v. valid_at v c.args.i) c.validity.ensures.value) ∙ c.if-is_valid.true in
    let row = list-row s.values.kind rows.values.kind (nullability_of rows.validity) (nullability_of s.validity) rows.validity rows.values.lists c.args.i c.list_at.result.now c.requires.same_type c.validity.ensures.fits c.requires.inside valid c.list_at.ensures.value in
    list-absent s.values.kind s.validity s.values.lists c.list_at.result.now _ c.count.ensures.grows row c.requires.absent

pub push_null-requires-clause-absent : goal.push_null-requires-clause-absent
push_null-requires-clause-absent c =
    let s = c.args.self.now in
    let rows = c.args.rows.now in
    let null : valid_at rows.validity c.args.i ≡ false = sym (c.is_valid.ensures ∙ ap (λ v. valid_at v c.args.i) c.validity.ensures.value) ∙ c.if-is_valid.false in
    let row = plain-row (string_value rows.values.kind) rows.validity rows.values.lists c.args.i [] false c.validity.ensures.fits c.requires.inside null in
    nowhere-null (string_value s.values.kind) s.validity s.values.lists c.count.ensures.grows (rw (← row) c.requires.absent)

pub returns-then-is_valid-clause-ok : goal.returns-then-is_valid-clause-ok
returns-then-is_valid-clause-ok c =
    let s = c.args.self.now in
    let rows = c.args.rows.now in
    let valid : valid_at rows.validity c.args.i ≡ true = sym (c.is_valid.ensures ∙ ap (λ v. valid_at v c.args.i) c.validity.ensures.value) ∙ c.if-is_valid.true in
    let row = list-row s.values.kind rows.values.kind (nullability_of rows.validity) (nullability_of s.validity) rows.validity rows.values.lists c.args.i c.list_at.result.now c.requires.same_type c.validity.ensures.fits c.requires.inside valid c.list_at.ensures.value in
    on_ok_weaker c.push_list.result
    (λ e. ap string_column e ∙ entries-more (string_value s.values.kind) (string_type s.values.kind) s.validity true s.values.lists c.list_at.result.now _ c.count.ensures.grows (λ _. refl) (sym row))
    c.push_list.ensures.ok

pub returns-else-is_valid-clause-ok : goal.returns-else-is_valid-clause-ok
returns-else-is_valid-clause-ok c =
    let s = c.args.self.now in
    let rows = c.args.rows.now in
    let null : valid_at rows.validity c.args.i ≡ false = sym (c.is_valid.ensures ∙ ap (λ v. valid_at v c.args.i) c.validity.ensures.value) ∙ c.if-is_valid.false in
    let row = plain-row (string_value rows.values.kind) rows.validity rows.values.lists c.args.i [] false c.validity.ensures.fits c.requires.inside null in
    let nulls = sym (string-nulls rows.values.kind (nullability_of rows.validity)) ∙ ap nullability c.requires.same_type ∙ string-nulls s.values.kind (nullability_of s.validity) in
    on_ok_weaker c.push_null.result
    (λ e. ap string_column e ∙ entries-more (string_value s.values.kind) (string_type s.values.kind) s.validity false s.values.lists [] _ c.count.ensures.grows (null-there-only rows.validity s.validity c.args.i nulls null) (sym row))
    c.push_null.ensures.ok
