use Rattle.std.proofs.Common.{◌≡◌, ◌∙◌, ap, arith, refl, sym, true, false}
use Rattle.std.specs.Prelude.{pos}
use Rattle.std.proofs.lemmas.Result.{on_ok_weaker}
use Rattle.vortex_array_kinds.specs.Kinds.{numbers_of}
use Rattle.vortex_array_kinds.specs.Validities.{valid_at}
use Rattle.vortex_array_kinds.proofs.RowLemmas.{length-rows-map}
use Rattle.vortex_array_types.specs.Row.{nullability}
use Rattle.vortex_array_types.specs.declared.types.DType.TheVariants as dtype
use Rattle.vortex_array_types.specs.declared.scalar.Value.TheVariants as value
use Rattle.vortex_dict_builders.specs.KeptColumns.{number_entries}
use Rattle.vortex_dict_builders.proofs.EntryLemmas.{entries-more, nowhere-null, null-there-only, plain-row}
use Rattle.vortex_dict_builders.proofs.RowEntries.{number-row, row-nowhere}
use Rattle.vortex_dict_builders.proofs.primitives.PrimitiveEntriesEntries.push.Goals as goal

pub item_at-requires-else-is_valid-clause-inside : goal.item_at-requires-else-is_valid-clause-inside
item_at-requires-else-is_valid-clause-inside g c =
    let rows = c.args.rows.now in
    omega (arith, c.requires.inside, length-rows-map (λ n. value.Int n) rows.validity (numbers_of rows.values) c.validity.ensures.fits)

pub push_item-requires : goal.push_item-requires
push_item-requires g c =
    let s = c.args.self.now in
    let rows = c.args.rows.now in
    let grows = c.count.ensures.grows in
    let valid : valid_at rows.validity c.args.i ≡ true = sym (c.is_valid.ensures ∙ ap (λ v. valid_at v c.args.i) c.validity.ensures.value) ∙ c.if-is_valid.true in
    let row = number-row rows.validity (numbers_of rows.values) c.args.i (g.T.NativeValue.number c.item_at.result) c.validity.ensures.fits c.requires.inside valid c.item_at.ensures in
    row-nowhere g.T.PartialEq.eq g.T.NativeValue.number g.met.T.NativeValue.same_number s.validity s.values c.item_at.result _ grows row c.requires.absent

pub push_null-requires-clause-absent : goal.push_null-requires-clause-absent
push_null-requires-clause-absent g c =
    let s = c.args.self.now in
    let rows = c.args.rows.now in
    let grows = c.count.ensures.grows in
    let null : valid_at rows.validity c.args.i ≡ false = sym (c.is_valid.ensures ∙ ap (λ v. valid_at v c.args.i) c.validity.ensures.value) ∙ c.if-is_valid.false in
    let row = plain-row (λ n. value.Int n) rows.validity (numbers_of rows.values) c.args.i (pos 0) false c.validity.ensures.fits c.requires.inside null in
    nowhere-null (λ item. value.Int (g.T.NativeValue.number item)) s.validity s.values grows (rw (← row) c.requires.absent)

pub returns-then-is_valid-clause-ok : goal.returns-then-is_valid-clause-ok
returns-then-is_valid-clause-ok g c =
    let s = c.args.self.now in
    let rows = c.args.rows.now in
    let grows = c.count.ensures.grows in
    let valid : valid_at rows.validity c.args.i ≡ true = sym (c.is_valid.ensures ∙ ap (λ v. valid_at v c.args.i) c.validity.ensures.value) ∙ c.if-is_valid.true in
    let row = number-row rows.validity (numbers_of rows.values) c.args.i (g.T.NativeValue.number c.item_at.result) c.validity.ensures.fits c.requires.inside valid c.item_at.ensures in
    on_ok_weaker c.push_item.result
    (λ e. ap (number_entries g.T.NativeValue.width g.T.NativeValue.number) e ∙ entries-more (λ item. value.Int (g.T.NativeValue.number item)) (dtype.Primitive g.T.NativeValue.width) s.validity true s.values c.item_at.result _ grows (λ _. refl) (sym row))
    c.push_item.ensures.ok

pub returns-else-is_valid-clause-ok : goal.returns-else-is_valid-clause-ok
returns-else-is_valid-clause-ok g c =
    let s = c.args.self.now in
    let rows = c.args.rows.now in
    let grows = c.count.ensures.grows in
    let null : valid_at rows.validity c.args.i ≡ false = sym (c.is_valid.ensures ∙ ap (λ v. valid_at v c.args.i) c.validity.ensures.value) ∙ c.if-is_valid.false in
    let row = plain-row (λ n. value.Int n) rows.validity (numbers_of rows.values) c.args.i (pos 0) false c.validity.ensures.fits c.requires.inside null in
    on_ok_weaker c.push_null.result
    (λ e. ap (number_entries g.T.NativeValue.width g.T.NativeValue.number) e ∙ entries-more (λ item. value.Int (g.T.NativeValue.number item)) (dtype.Primitive g.T.NativeValue.width) s.validity false s.values _ _ grows (null-there-only rows.validity s.validity c.args.i (ap nullability c.requires.same_type) null) (sym row))
    c.push_null.ensures.ok
