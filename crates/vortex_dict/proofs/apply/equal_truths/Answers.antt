use Rattle.std.proofs.Common.{◌≡◌, ◌∙◌, Bool, Some, None, ap}
use Rattle.std.specs.Prelude.{IsTrue, option_map}
use Rattle.std.proofs.lemmas.Result.{IfOk-weaker}
use Rattle.vortex_array_types.specs.Row.{fits_type, nullability}
use Rattle.vortex_array_types.specs.declared.scalar.Value.{Value}
use Rattle.vortex_array_types.specs.declared.types.Nullability.TheVariants as nulls
use Rattle.vortex_dict.proofs.Held.{equal-held, null-kind}
use Rattle.vortex_dict.proofs.apply.equal_truths.Goals as goal

pub returns-in-Some-clause-rows : goal.returns-in-Some-clause-rows
returns-in-Some-clause-rows g c =
    let k = c.args.value.now in
    let truth : Value → Bool = g.Q.Predicate.truth c.args.q.now in
    let kind : c.nullability-nullability.result ≡ nullability k.scalar.dtype = c.nullability-nullability.ensures ∙ ap nullability c.dtype.ensures in
    let is : Some c.test.result ≡ option_map truth k.scalar.value =
    ap (λ (b : Bool). Some b) c.test.ensures.answer ∙ ap (option_map truth) (c.in-Some.ensures.value ∙ ap (λ s. s.value) c.scalar.ensures) in
    IfOk-weaker c.equal_answers-in-Some.result _ _
    (λ a e. e ∙ equal-held truth k c.nullability-nullability.result c.len-len.result (Some c.test.result) kind c.len-len.ensures.count is)
    c.equal_answers-in-Some.ensures

pub returns-in-None-clause-rows : goal.returns-in-None-clause-rows
returns-in-None-clause-rows g c =
    let k = c.args.value.now in
    let truth : Value → Bool = g.Q.Predicate.truth c.args.q.now in
    let is : None ≡ k.scalar.value = c.in-None.ensures.value ∙ ap (λ s. s.value) c.scalar.ensures in
    let fits : IsTrue (fits_type k.scalar.dtype k.scalar.value) = rw c.scalar.ensures at c.in-None.ensures.fits in
    IfOk-weaker c.null_answers.result _ _
    (λ a e. e ∙ equal-held truth k nulls.Nullable c.len-len.result None (null-kind k is fits) c.len-len.ensures.count (ap (option_map truth) is))
    c.null_answers.ensures
