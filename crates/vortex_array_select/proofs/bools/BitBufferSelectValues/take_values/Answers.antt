use Rattle.std.proofs.Common.{false}
use Rattle.vortex_array_types.specs.declared.scalar.Value.TheVariants as value
use Rattle.vortex_array_select.proofs.TakenRows.{are-taken-read}
use Rattle.vortex_array_select.proofs.bools.BitBufferSelectValues.take_values.Goals as goal

pub returns-clause-items : goal.returns-clause-items
returns-clause-items g c =
    are-taken-read (λ b. value.Bool b) g.P.RowIndex.place false c.args.nulls.now c.args.self.now c.in_ok-part.part c.args.places.now c.requires.long c.requires.within c.in_ok-part.ensures
