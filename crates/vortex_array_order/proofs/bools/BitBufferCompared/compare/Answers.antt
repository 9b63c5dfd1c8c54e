use Rattle.std.proofs.Common.{false}
use Rattle.vortex_array_types.specs.declared.scalar.Value.TheVariants as values
use Rattle.vortex_array_order.proofs.RowsUnder.{read-at, read-inside}
use Rattle.vortex_array_order.proofs.bools.BitBufferCompared.compare.Goals as goal

pub value-first-requires : goal.value-first-requires
value-first-requires c = read-inside (λ b. values.Bool b) c.args.self.now c.args.i c.requires.first

pub value-second-requires : goal.value-second-requires
value-second-requires c = read-inside (λ b. values.Bool b) c.args.self.now c.args.j c.requires.second

pub returns : goal.returns
returns c =
    rw (read-at (λ b. values.Bool b) c.args.self.now c.args.i false c.requires.first, read-at (λ b. values.Bool b) c.args.self.now c.args.j false c.requires.second, ← c.value-first.ensures, ← c.value-second.ensures, c.cmp.ensures)
