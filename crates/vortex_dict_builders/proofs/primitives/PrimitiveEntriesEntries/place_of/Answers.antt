use Rattle.std.proofs.Common.{◌≡◌, ◌∙◌, ap, sym, true, false}
use Rattle.std.specs.Prelude.{pos}
use Rattle.std.proofs.lemmas.Option.{IfSome_then}
use Rattle.vortex_array_kinds.specs.Kinds.{numbers_of}
use Rattle.vortex_array_kinds.specs.Validities.{valid_at}
use Rattle.vortex_array_types.specs.declared.scalar.Value.TheVariants as value
use Rattle.vortex_dict_builders.proofs.EntryLemmas.{plain-row}
use Rattle.vortex_dict_builders.proofs.IndexLemmas.{null-nowhere, null-stands}
use Rattle.vortex_dict_builders.proofs.RowEntries.{item-nowhere, item-stands, number-row}
use Rattle.vortex_dict_builders.proofs.Succeeds.{none-then}
use Rattle.vortex_dict_builders.proofs.primitives.PrimitiveEntriesEntries.place_of.Goals as goal

pub returns-then-is_valid-clause-none : goal.returns-then-is_valid-clause-none
returns-then-is_valid-clause-none g c =
    let s = c.args.self.now in
    let rows = c.args.rows.now in
    let grows = c.count.ensures.grows in
    let valid : valid_at rows.validity c.args.i ≡ true = sym (c.is_valid.ensures ∙ ap (λ v. valid_at v c.args.i) c.validity.ensures.value) ∙ c.if-is_valid.true in
    let row = number-row rows.validity (numbers_of rows.values) c.args.i (g.T.NativeValue.number c.item_at.result) c.validity.ensures.fits c.requires.inside valid c.item_at.ensures in
    none-then c.place_of_item.result (item-nowhere g.T.PartialEq.eq g.T.NativeValue.number g.met.T.NativeValue.same_number s.validity s.values c.item_at.result _ grows row) c.place_of_item.ensures.none

pub returns-then-is_valid-clause-some : goal.returns-then-is_valid-clause-some
returns-then-is_valid-clause-some g c =
    let s = c.args.self.now in
    let rows = c.args.rows.now in
    let grows = c.count.ensures.grows in
    let valid : valid_at rows.validity c.args.i ≡ true = sym (c.is_valid.ensures ∙ ap (λ v. valid_at v c.args.i) c.validity.ensures.value) ∙ c.if-is_valid.true in
    let row = number-row rows.validity (numbers_of rows.values) c.args.i (g.T.NativeValue.number c.item_at.result) c.validity.ensures.fits c.requires.inside valid c.item_at.ensures in
    IfSome_then c.place_of_item.result c.place_of_item.ensures.some (λ p. item-stands g.T.PartialEq.eq g.T.NativeValue.number g.met.T.NativeValue.same_number s.validity s.values c.item_at.result _ p grows row)

pub returns-else-is_valid-clause-none : goal.returns-else-is_valid-clause-none
returns-else-is_valid-clause-none g c =
    let s = c.args.self.now in
    let rows = c.args.rows.now in
    let grows = c.count.ensures.grows in
    let null : valid_at rows.validity c.args.i ≡ false = sym (c.is_valid.ensures ∙ ap (λ v. valid_at v c.args.i) c.validity.ensures.value) ∙ c.if-is_valid.false in
    let row = plain-row (λ n. value.Int n) rows.validity (numbers_of rows.values) c.args.i (pos 0) false c.validity.ensures.fits c.requires.inside null in
    rw row (none-then c.place_of_null.result (null-nowhere (λ item. value.Int (g.T.NativeValue.number item)) s.validity s.values grows) c.place_of_null.ensures.none)

pub returns-else-is_valid-clause-some : goal.returns-else-is_valid-clause-some
returns-else-is_valid-clause-some g c =
    let s = c.args.self.now in
    let rows = c.args.rows.now in
    let grows = c.count.ensures.grows in
    let null : valid_at rows.validity c.args.i ≡ false = sym (c.is_valid.ensures ∙ ap (λ v. valid_at v c.args.i) c.validity.ensures.value) ∙ c.if-is_valid.false in
    let row = plain-row (λ n. value.Int n) rows.validity (numbers_of rows.values) c.args.i (pos 0) false c.validity.ensures.fits c.requires.inside null in
    rw row (IfSome_then c.place_of_null.result c.place_of_null.ensures.some (λ p. null-stands (λ item. value.Int (g.T.NativeValue.number item)) s.validity s.values p grows))
