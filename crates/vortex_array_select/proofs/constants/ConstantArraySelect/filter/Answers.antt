use Rattle.vortex_buffer.specs.Mask.{mask_bits}
use Rattle.vortex_array_select.proofs.ConstantRows.{constant-kept}
use Rattle.vortex_array_select.proofs.constants.ConstantArraySelect.filter.Goals as goal

pub returns : goal.returns
returns c =
    rw (c.new.ensures, c.in_ok-scalar.ensures, c.scalar.ensures, c.true_count.ensures)
    (constant-kept c.args.self.now.scalar c.args.self.now.len (mask_bits c.args.mask.now) c.requires.same_length)
