use Rattle.std.proofs.Common.{◌∙◌, sym, ap, take}
use Rattle.vortex_table_types.proofs.laws.ordered_answers_agree.Goals as goal

pub returns : goal.returns
returns c = λ a b c' o p q. (p.in_order o).joined ∙ ap (λ n. take n a.rows) (p.counted ∙ sym q.counted) ∙ sym (q.in_order o).joined
