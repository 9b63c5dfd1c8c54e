use Rattle.std.proofs.Common.{◌∙◌, Some}
use Rattle.vortex_array_types.specs.Seen.{value_seen}
use Rattle.vortex_array.proofs.Filling.{equal-filled}
use Rattle.vortex_array.proofs.fill.fill_constant.Goals as goal

pub returns-clause-column : goal.returns-clause-column
returns-clause-column c =
    c.in_ok-full.ensures.column
    ∙ rw (c.len.ensures.count, c.in_ok-row.ensures.column, c.scalar.ensures) (equal-filled (record { dtype = c.args.dtype; value = Some (value_seen c.args.value) }) c.args.array.now)
