use Rattle.std.proofs.Common.{◌∙◌, ◌≡◌, ap, None, Some}
use Rattle.std.specs.Prelude.{IsTrue}
use Rattle.std.proofs.lemmas.Result.{IfOk-weaker}
use Rattle.vortex_array_types.specs.Order.{compares}
use Rattle.vortex_array_types.specs.Row.{fits_type, nullability}
use Rattle.vortex_array_types.specs.Seen.{value_seen}
use Rattle.vortex_array_types.specs.declared.types.Nullability.{Nullability}
use Rattle.vortex_array_kinds.specs.Truths.{either}
use Rattle.vortex_array_compare.proofs.Equal.{equal-some, equal-null}
use Rattle.vortex_array_compare.proofs.constants.ConstantArrayCompare.compare_value.Goals as goal

pub returns-in-Some : goal.returns-in-Some
returns-in-Some c =
    let k = c.args.self.now in
    let kind : Nullability = either (nullability k.scalar.dtype) (nullability c.args.dtype) in
    let kinds : c.either_nullability-nullability.result ≡ kind = c.either_nullability-nullability.ensures ∙ ap (λ d. either (nullability d) (nullability c.args.dtype)) c.dtype.ensures in
    let is : Some (value_seen c.in-Some.own) ≡ k.scalar.value = c.in-Some.ensures.value ∙ ap (λ s. s.value) c.scalar.ensures in
    IfOk-weaker c.equal_answers.result _ _ (λ a e. (rw (kinds, c.len.ensures.count, c.compares.ensures) at e) ∙ equal-some (compares c.args.operator) k c.args.dtype (value_seen c.in-Some.own) (value_seen c.args.value) is) c.equal_answers.ensures

pub returns-in-None : goal.returns-in-None
returns-in-None c =
    let k = c.args.self.now in
    let is : None ≡ k.scalar.value = c.in-None.ensures.value ∙ ap (λ s. s.value) c.scalar.ensures in
    let fits : IsTrue (fits_type k.scalar.dtype k.scalar.value) = rw c.scalar.ensures at c.in-None.ensures.fits in
    IfOk-weaker c.null_answers.result _ _ (λ a e. (rw c.len-in-None.ensures.count at e) ∙ equal-null (compares c.args.operator) k c.args.dtype (value_seen c.args.value) is fits) c.null_answers.ensures
