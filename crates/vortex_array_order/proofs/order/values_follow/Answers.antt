use Rattle.std.proofs.Common.{◌∙◌, ◌≡◌, ◌+◌, ◌-◌, sym, refl, arith, get_or, subst, None, false, true}
use Rattle.std.specs.Ordering.{is_some_and}
use Rattle.std.proofs.lemmas.Bool.{false≢true}
use Rattle.vortex_array_types.specs.Order.{row_cmp}
use Rattle.vortex_array_order.specs.Asked.{follows}
use Rattle.vortex_array_order.proofs.OrderLaws.{answered}
use Rattle.vortex_array_order.proofs.NullRows.{follow-more, value-row}
use Rattle.vortex_array_order.proofs.order.values_follow.Goals as goal

pub returns-then-nulls-len : goal.returns-then-nulls-len
returns-then-nulls-len g c = ((λ _ k l inside. absurd (omega (arith, l, inside, c.if-nulls-len.true, c.count-len.ensures))), (λ _. refl))

pub loop-i-init : goal.loop-i-init
loop-i-init g c = λ k l inside. absurd (omega (arith, l, inside))

pub loop-i-preserved : goal.loop-i-preserved
loop-i-preserved g c =
    let rows = c.args.rows.now in
    let i = c.loop-i.i in
    follow-more c.args.order rows c.args.nulls i (omega (arith, c.loop-i.auto.i)) c.loop-i.invariant
    (answered (follows c.args.order) (get_or rows (i - 1) None) (get_or rows i None) c.compare.result true c.compare.ensures (sym c.may_follow.ensures ∙ c.if-not-may_follow.false))

pub returns-then-not-may_follow : goal.returns-then-not-may_follow
returns-then-not-may_follow g c =
    let rows = c.args.rows.now in
    let i = c.loop-i.i in
    let next : i - 1 + 1 ≡ i = omega (arith, c.loop-i.auto.i) in
    let apart = answered (follows c.args.order) (get_or rows (i - 1) None) (get_or rows i None) c.compare.result false c.compare.ensures (sym c.may_follow.ensures ∙ c.if-not-may_follow.true) in (
      (λ t. absurd (false≢true t)),
      (λ h. absurd (false≢true (sym apart ∙ subst (λ k. is_some_and (follows c.args.order) (row_cmp (get_or rows (i - 1) None) (get_or rows k None)) ≡ true) next (h (i - 1) (omega (arith, c.loop-i.auto.i)) (omega (arith, next, c.loop-i-test.true, c.count-len.ensures)))))),
    )

pub returns : goal.returns
returns g c = ((λ _ k l inside. c.loop-i.invariant k l (omega (arith, inside, c.loop-i-test.false, c.count-len.ensures))), (λ _. refl))

pub compare-requires-clause-first : goal.compare-requires-clause-first
compare-requires-clause-first g c =
    value-row c.args.rows.now c.args.nulls (c.loop-i.i - 1) c.requires (omega (arith, c.loop-i.auto.i)) (omega (arith, c.loop-i.auto.i, c.loop-i-test.true, c.count-len.ensures))

pub compare-requires-clause-second : goal.compare-requires-clause-second
compare-requires-clause-second g c = value-row c.args.rows.now c.args.nulls c.loop-i.i c.requires (omega (arith, c.loop-i.auto.i)) (omega (arith, c.loop-i-test.true, c.count-len.ensures))
