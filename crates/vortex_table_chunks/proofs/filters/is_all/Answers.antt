use Rattle.vortex_table_chunks.proofs.Decided.{all-false, all-true}
use Rattle.vortex_table_chunks.proofs.filters.is_all.Goals as goal

pub returns-then-truth : goal.returns-then-truth
returns-then-truth c =
    all-true c.args.answer.now c.validity.result.now c.bits.result.now c.has_none.result c.args.truth c.count-set.result c.validity.ensures.value c.bits.ensures.value c.has_none.ensures c.if-not-has_none.false c.count-set.ensures
    c.len.result c.if-truth.true c.len.ensures.values

pub returns-else-truth : goal.returns-else-truth
returns-else-truth c =
    all-false c.args.answer.now c.validity.result.now c.bits.result.now c.has_none.result c.args.truth c.count-set.result c.validity.ensures.value c.bits.ensures.value c.has_none.ensures c.if-not-has_none.false c.count-set.ensures
    c.if-truth.false
