use Rattle.std.proofs.Common.{◌∙◌, ◌≡◌, ap, None, Some}
use Rattle.std.specs.Prelude.{replicate}
use Rattle.std.proofs.lemmas.Result.{IfOk-weaker}
use Rattle.vortex_array_types.specs.Row.{nullability}
use Rattle.vortex_array_types.specs.Truth.{is_like}
use Rattle.vortex_array_types.specs.declared.scalar.Value.TheVariants as value
use Rattle.vortex_array_types.specs.declared.types.Nullability.{Nullability}
use Rattle.vortex_array_types.specs.declared.types.Nullability.TheVariants as nulls
use Rattle.vortex_array_kinds.specs.Truths.{either, truths}
use Rattle.vortex_array_compare.proofs.Equal.{equal-some, equal-null}
use Rattle.vortex_array.proofs.like.equal_text_like_one.Goals as goal

pub returns-in-Some : goal.returns-in-Some
returns-in-Some c =
    let k = c.args.text.now in
    let kind : Nullability = either (nullability k.scalar.dtype) (nullability c.args.dtype) in
    let kinds : c.either_nullability-nullability.result ≡ kind = c.either_nullability-nullability.ensures ∙ ap (λ d. either (nullability d) (nullability c.args.dtype)) c.dtype.ensures in
    IfOk-weaker c.equal_answers.result _ _
    (λ a e.
    e
    ∙ ap (λ n. truths n (replicate c.len.result (Some c.text_matches.result))) kinds
    ∙ ap (λ m. truths kind (replicate m (Some c.text_matches.result))) c.len.ensures.count
    ∙ ap (λ b. truths kind (replicate k.len (Some b))) c.text_matches.ensures
    ∙ equal-some is_like k c.args.dtype (value.Utf8 c.in-Some.own.now) (value.Utf8 c.args.pattern.now) c.in-Some.ensures.value)
    c.equal_answers.ensures

pub returns-in-None : goal.returns-in-None
returns-in-None c =
    IfOk-weaker c.null_answers.result _ _
    (λ a e.
    e
    ∙ ap (λ m. truths nulls.Nullable (replicate m None)) c.len-in-None.ensures.count
    ∙ equal-null is_like c.args.text.now c.args.dtype (value.Utf8 c.args.pattern.now) c.in-None.ensures.value c.in-None.ensures.fits)
    c.null_answers.ensures
