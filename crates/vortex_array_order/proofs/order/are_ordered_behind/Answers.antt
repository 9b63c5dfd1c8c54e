use Rattle.std.proofs.Common.{◌∙◌, subst, sym}
use Rattle.std.proofs.lemmas.Bool.{false≢true, true≢false}
use Rattle.vortex_array_order.specs.Asked.{Begins}
use Rattle.vortex_array_order.specs.declared.order.RowOrder.TheVariants.{Constant, Sorted, StrictlySorted}
use Rattle.vortex_array_order.proofs.NullRows.{ordered-begins, told-ordered}
use Rattle.vortex_array_order.proofs.order.are_ordered_behind.Goals as goal

pub returns-then-not-may_begin : goal.returns-then-not-may_begin
returns-then-not-may_begin g c = (
  (λ t. absurd (false≢true t)),
  (λ h. absurd (true≢false (sym (c.may_begin.ensures.1 (subst (λ m. Begins c.args.order c.args.nulls m) (sym c.count.ensures) (ordered-begins c.args.order c.args.rows.now c.args.nulls c.requires h))) ∙ c.if-not-may_begin.true))),
)

pub returns-in-Constant : goal.returns-in-Constant
returns-in-Constant g c = told-ordered c.args.order Constant c.args.rows.now c.args.nulls _ _ _ c.in-Constant.is c.requires c.count.ensures c.may_begin.ensures c.if-not-may_begin.false c.values_follow.ensures

pub returns-in-Sorted : goal.returns-in-Sorted
returns-in-Sorted g c = told-ordered c.args.order Sorted c.args.rows.now c.args.nulls _ _ _ c.in-Sorted.is c.requires c.count.ensures c.may_begin.ensures c.if-not-may_begin.false c.values_follow-in-Sorted.ensures

pub returns-in-StrictlySorted : goal.returns-in-StrictlySorted
returns-in-StrictlySorted g c =
    told-ordered c.args.order StrictlySorted c.args.rows.now c.args.nulls _ _ _ c.in-StrictlySorted.is c.requires c.count.ensures c.may_begin.ensures c.if-not-may_begin.false c.values_follow-in-StrictlySorted.ensures
