use Rattle.std.proofs.Common.{ℕ, ◌≡◌, ◌∙◌, Bool, ap, length, subst, sym}
use Rattle.std.specs.Prelude.{IsTrue}
use Rattle.std.proofs.lemmas.List.{length-map, length-replicate}
use Rattle.vortex_array_types.specs.Row.{Column, is_nullable}
use Rattle.vortex_array_types.specs.Truth.{is_like}
use Rattle.vortex_array_select.specs.Selected.{NamesRows, row_at}
use Rattle.vortex_array.specs.ColumnOf.{bool_column, column_of}
use Rattle.vortex_array.specs.declared.arrays.Array.{Array}
use Rattle.vortex_dict.specs.Decoded.{decoded, dict_column}
use Rattle.vortex_dict.proofs.Gathered.{gathered-tested, length-tested, text-kind, value-truths}
use Rattle.vortex_dict.proofs.compare.like_values.Goals as goal

pub like-requires-clause-texts : goal.like-requires-clause-texts
like-requires-clause-texts c =
    let d = c.args.dict.now in
    rw c.values-values.ensures.value
    (subst (λ (b : Bool). IsTrue b) (text-kind (is_nullable (column_of d.codes).dtype) (column_of d.values).dtype) c.requires.texts)

pub new-requires : goal.new-requires
new-requires c =
    let d = c.args.dict.now in
    let k = c.args.constant.now in
    let many : length (column_of d.values).rows ≡ c.len.result = sym (c.len.ensures ∙ ap (λ (a : Array). length (column_of a).rows) c.values-values.ensures.value) in
    let told = value-truths is_like (column_of c.values-values.result.now) (column_of d.values) (column_of c.in_ok-same.same) k.scalar c.len.result (bool_column c.in_ok-truths.truths) c.in_ok-truths.ensures c.in_ok-same.ensures (ap column_of c.values-values.ensures.value) in
    subst (λ (a : Array). NamesRows (column_of a) (length (bool_column c.in_ok-truths.truths).rows)) (sym (c.in_ok-codes.ensures ∙ c.codes.ensures.value))
    (subst (λ (n : ℕ). NamesRows (column_of d.codes) n) (sym (ap (λ (a : Column). length a.rows) told ∙ length-tested is_like (column_of d.values) k.scalar c.len.result many)) c.codes.ensures.fits)

pub returns : goal.returns
returns c =
    let d = c.args.dict.now in
    let k = c.args.constant.now in
    let many : length (column_of d.values).rows ≡ c.len.result = sym (c.len.ensures ∙ ap (λ (a : Array). length (column_of a).rows) c.values-values.ensures.value) in
    let same : length (column_of d.codes).rows ≡ k.len =
    sym (length-map (column_of d.codes).rows (row_at (column_of d.values).rows)) ∙ c.requires.same_length ∙ length-replicate k.len k.scalar.value in
    let told = value-truths is_like (column_of c.values-values.result.now) (column_of d.values) (column_of c.in_ok-same.same) k.scalar c.len.result (bool_column c.in_ok-truths.truths) c.in_ok-truths.ensures c.in_ok-same.ensures (ap column_of c.values-values.ensures.value) in
    ap dict_column c.new.ensures
    ∙ ap (λ (a : Array). decoded (column_of a) (bool_column c.in_ok-truths.truths)) (c.in_ok-codes.ensures ∙ c.codes.ensures.value)
    ∙ ap (decoded (column_of d.codes)) told
    ∙ gathered-tested is_like (column_of d.codes) (column_of d.values) k.scalar c.len.result k.len many same
