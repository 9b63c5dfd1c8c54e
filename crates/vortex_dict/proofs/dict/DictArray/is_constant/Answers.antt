use Rattle.std.proofs.Common.{◌∙◌, length, subst, sym}
use Rattle.std.specs.Prelude.{◌↔◌, IsTrue}
use Rattle.vortex_array_order.specs.InOrder.{IsConstant}
use Rattle.vortex_array_select.specs.Selected.{NamesRows}
use Rattle.vortex_array.specs.ColumnOf.{column_of}
use Rattle.vortex_array.specs.declared.arrays.Array.{Array}
use Rattle.vortex_dict.specs.Decoded.{decoded}
use Rattle.vortex_dict.proofs.dict.DictArray.is_constant.Goals as goal

pub numbers_name_one-requires : goal.numbers_name_one-requires
numbers_name_one-requires c =
    let d = c.args.self.now in
    rw c.values-values.ensures.value
    (subst (λ (k : Array). NamesRows (column_of k) (length (column_of d.values).rows)) (sym c.codes.ensures.value ∙ c.in-Primitive.is) c.codes.ensures.fits)

pub returns-in-Primitive : goal.returns-in-Primitive
returns-in-Primitive c =
    let d = c.args.self.now in
    subst (λ (k : Array). IsTrue c.numbers_name_one.result ↔ IsConstant (decoded (column_of k) (column_of d.values)).rows) (sym (sym c.codes.ensures.value ∙ c.in-Primitive.is))
    (rw c.values-values.ensures.value at c.numbers_name_one.ensures)

pub returns-in-Constant : goal.returns-in-Constant
returns-in-Constant c =
    let d = c.args.self.now in
    subst (λ (k : Array). IsTrue c.equal_name_one.result ↔ IsConstant (decoded (column_of k) (column_of d.values)).rows) (sym (sym c.codes.ensures.value ∙ c.in-Constant.is))
    (rw c.values-values.ensures.value at c.equal_name_one.ensures)
