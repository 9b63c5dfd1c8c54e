use Rattle.vortex_array_select.proofs.ConstantRows.{constant-sliced}
use Rattle.vortex_array_select.proofs.constants.ConstantArraySelect.slice.Goals as goal

pub returns : goal.returns
returns c =
    rw (c.new.ensures, c.in_ok-scalar.ensures, c.scalar.ensures)
    (constant-sliced c.args.self.now.scalar c.args.self.now.len c.args.start c.args.end c.requires.order c.requires.within)
