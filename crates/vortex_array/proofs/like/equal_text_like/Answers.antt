use Rattle.std.proofs.Common.{◌∙◌, ◌≡◌, ap, None}
use Rattle.std.specs.Prelude.{replicate}
use Rattle.std.proofs.lemmas.Result.{IfOk-weaker}
use Rattle.vortex_array_types.specs.Row.{nullability}
use Rattle.vortex_array_types.specs.Truth.{is_like}
use Rattle.vortex_array_types.specs.declared.scalar.Value.TheVariants as value
use Rattle.vortex_array_types.specs.declared.types.Nullability.TheVariants as nulls
use Rattle.vortex_array_kinds.specs.Kinds.{string_column}
use Rattle.vortex_array_kinds.specs.Truths.{truths}
use Rattle.vortex_array_compare.proofs.Equal.{first-null}
use Rattle.vortex_array.proofs.Compared.{first-some}
use Rattle.vortex_array.proofs.like.equal_text_like.Goals as goal

pub returns-in-Some : goal.returns-in-Some
returns-in-Some c =
    let kind : c.nullability-nullability.result ≡ nullability c.args.text.now.scalar.dtype = c.nullability-nullability.ensures ∙ ap nullability c.dtype.ensures in
    IfOk-weaker c.text_like_patterns.result _ _
    (λ a e.
    e ∙ first-some is_like c.args.text.now (string_column c.args.patterns.now) c.nullability-nullability.result (value.Utf8 c.in-Some.own.now) kind c.in-Some.ensures.value c.requires.same_length)
    c.text_like_patterns.ensures

pub returns-in-None : goal.returns-in-None
returns-in-None c =
    IfOk-weaker c.null_answers.result _ _
    (λ a e.
    e
    ∙ ap (λ m. truths nulls.Nullable (replicate m None)) c.len.ensures.count
    ∙ first-null is_like c.args.text.now (string_column c.args.patterns.now) c.in-None.ensures.value c.in-None.ensures.fits c.requires.same_length)
    c.null_answers.ensures
