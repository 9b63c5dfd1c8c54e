use Rattle.std.proofs.Common.{◌∙◌, ap, sym}
use Rattle.vortex_array_kinds.specs.Kinds.{numbers_of}
use Rattle.vortex_table.proofs.ReadBack.{values_written}
use Rattle.vortex_table.proofs.numbers.u64_values.Goals as goal

pub returns : goal.returns
returns c = values_written c.args.array.now.values c.args.array.now.validity _ c.requires (ap numbers_of (sym c.values.ensures.value) ∙ c.u64_items.ensures)
