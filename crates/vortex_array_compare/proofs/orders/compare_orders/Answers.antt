use Rattle.std.proofs.Common.{rules}
use Rattle.std.proofs.lemmas.Result.{IfOk-weaker}
use Rattle.vortex_buffer.specs.declared.compare_operator.CompareOperator.TheVariants.{Eq, NotEq, Gt, Gte, Lt, Lte}
use Rattle.vortex_array_compare.proofs.OrderAnswers.{accepted-map}
use Rattle.vortex_array_compare.proofs.orders.compare_orders.Goals as goal

pub returns-in-Eq : goal.returns-in-Eq
returns-in-Eq g c = IfOk-weaker c.collect_lane_bits.result _ _ (accepted-map _ c.args.operator Eq c.in-Eq.is (λ o b p. search rules) (g.S.IndexedSource.lanes c.args.orders.now)) c.collect_lane_bits.ensures.ok

pub returns-in-NotEq : goal.returns-in-NotEq
returns-in-NotEq g c = IfOk-weaker c.collect_lane_bits-in-NotEq.result _ _ (accepted-map _ c.args.operator NotEq c.in-NotEq.is (λ o b p. search rules) (g.S.IndexedSource.lanes c.args.orders.now)) c.collect_lane_bits-in-NotEq.ensures.ok

pub returns-in-Gt : goal.returns-in-Gt
returns-in-Gt g c = IfOk-weaker c.collect_lane_bits-in-Gt.result _ _ (accepted-map _ c.args.operator Gt c.in-Gt.is (λ o b p. search rules) (g.S.IndexedSource.lanes c.args.orders.now)) c.collect_lane_bits-in-Gt.ensures.ok

pub returns-in-Gte : goal.returns-in-Gte
returns-in-Gte g c = IfOk-weaker c.collect_lane_bits-in-Gte.result _ _ (accepted-map _ c.args.operator Gte c.in-Gte.is (λ o b p. search rules) (g.S.IndexedSource.lanes c.args.orders.now)) c.collect_lane_bits-in-Gte.ensures.ok

pub returns-in-Lt : goal.returns-in-Lt
returns-in-Lt g c = IfOk-weaker c.collect_lane_bits-in-Lt.result _ _ (accepted-map _ c.args.operator Lt c.in-Lt.is (λ o b p. search rules) (g.S.IndexedSource.lanes c.args.orders.now)) c.collect_lane_bits-in-Lt.ensures.ok

pub returns-in-Lte : goal.returns-in-Lte
returns-in-Lte g c = IfOk-weaker c.collect_lane_bits-in-Lte.result _ _ (accepted-map _ c.args.operator Lte c.in-Lte.is (λ o b p. search rules) (g.S.IndexedSource.lanes c.args.orders.now)) c.collect_lane_bits-in-Lte.ensures.ok
