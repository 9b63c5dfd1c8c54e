use Rattle.std.proofs.Common.{◌∙◌, ap, map, not, sym}
use Rattle.std.proofs.lemmas.Result.{IfOk-weaker}
use Rattle.vortex_array_types.specs.Order.{accepts}
use Rattle.vortex_array_compare.proofs.OrderAnswers.{not-equal}
use Rattle.vortex_array_compare.proofs.orders.compare_equal_or_orders.Goals as goal

pub returns-in-Eq : goal.returns-in-Eq
returns-in-Eq g c =
    let orders = g.S.IndexedSource.lanes c.args.orders.now in
    IfOk-weaker c.truth_bits.result _ _ (λ bits e. e ∙ c.requires.equal ∙ ap (λ operator. map (accepts operator) orders) (sym c.in-Eq.is)) c.truth_bits.ensures

pub returns-in_ok-same-in-NotEq : goal.returns-in_ok-same-in-NotEq
returns-in_ok-same-in-NotEq g c =
    let orders = g.S.IndexedSource.lanes c.args.orders.now in
    IfOk-weaker c.not.result _ _ (λ bits e. e ∙ ap (map not) (c.in_ok-same-in-NotEq.ensures ∙ c.requires.equal) ∙ not-equal orders ∙ ap (λ operator. map (accepts operator) orders) (sym c.in-NotEq.is)) c.not.ensures
