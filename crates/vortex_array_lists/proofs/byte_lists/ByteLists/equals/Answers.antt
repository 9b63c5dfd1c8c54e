use Rattle.std.proofs.Common.{[], ap, get_or, length, sym, ◌∙◌}
use Rattle.vortex_array_lists.proofs.FrontOrder.{lengths-differ}
use Rattle.vortex_array_lists.proofs.byte_lists.ByteLists.equals.Goals as goal

pub returns-then-get-other : goal.returns-then-get-other
returns-then-get-other c =
    sym (lengths-differ (get_or c.args.self.now c.args.i []) (get_or c.args.others.now c.args.j []) (λ e. c.if-get-other.true (ap length c.get.ensures ∙ e ∙ sym (ap length c.get-other.ensures))))
