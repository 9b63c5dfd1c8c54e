use Rattle.std.proofs.Common.{◌∙◌, ap, map, sym}
use Rattle.vortex_buffer.specs.Mask.{mask_bits}
use Rattle.vortex_array_rows.proofs.Kept.{kept_by-map}
use Rattle.vortex_array_types.specs.declared.scalar.Value.TheVariants as value
use Rattle.vortex_array_select.proofs.bools.BitBufferSelectValues.filter_values.Goals as goal

pub returns-clause-items : goal.returns-clause-items
returns-clause-items c = ap (map (λ b. value.Bool b)) c.in_ok-kept.ensures.ok ∙ sym (kept_by-map (λ b. value.Bool b) (mask_bits c.args.mask.now) c.args.self.now)
