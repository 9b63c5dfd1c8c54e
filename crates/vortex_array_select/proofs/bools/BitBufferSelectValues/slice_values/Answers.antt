use Rattle.std.proofs.Common.{◌∙◌, ap, map, sym}
use Rattle.vortex_array_rows.proofs.Slices.{slice-map}
use Rattle.vortex_array_types.specs.declared.scalar.Value.TheVariants as value
use Rattle.vortex_array_select.proofs.bools.BitBufferSelectValues.slice_values.Goals as goal

pub returns-clause-items : goal.returns-clause-items
returns-clause-items c = ap (map (λ b. value.Bool b)) c.in_ok-part.ensures.ok ∙ sym (slice-map (λ b. value.Bool b) c.args.self.now c.args.start c.args.end)
