use Rattle.std.proofs.Common.{◌∙◌, ◌≡◌, ap, None}
use Rattle.std.specs.Prelude.{IsTrue}
use Rattle.std.proofs.lemmas.Result.{IfOk-weaker}
use Rattle.vortex_array_types.specs.Order.{compares}
use Rattle.vortex_array_types.specs.Row.{fits_type}
use Rattle.vortex_array_kinds.specs.Kinds.{constant_column}
use Rattle.vortex_array_compare.proofs.Equal.{constant-null}
use Rattle.vortex_array_compare.proofs.constants.ConstantArrayCompare.compare.Goals as goal

pub returns-in-None : goal.returns-in-None
returns-in-None c =
    let k = c.args.other.now in
    let is : None ≡ k.scalar.value = c.in-None.ensures.value ∙ ap (λ s. s.value) c.scalar.ensures in
    let fits : IsTrue (fits_type k.scalar.dtype k.scalar.value) = rw c.scalar.ensures at c.in-None.ensures.fits in
    IfOk-weaker c.null_answers.result _ _ (λ a e. (rw c.len.ensures.count at e) ∙ constant-null (compares c.args.operator) (constant_column c.args.self.now) k is fits c.requires.same_length) c.null_answers.ensures
