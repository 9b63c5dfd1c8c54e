use Rattle.std.proofs.Common.{◌∙◌, ap, map, sym}
use Rattle.vortex_buffer.specs.Mask.{mask_bits}
use Rattle.vortex_array_rows.proofs.Kept.{kept_by-map}
use Rattle.vortex_array_types.specs.declared.scalar.Value.TheVariants as value
use Rattle.vortex_array_select.proofs.decimals.filter_in.Goals as goal

pub returns-clause-items : goal.returns-clause-items
returns-clause-items g c =
    let set = mask_bits c.args.mask.now in
    ap (map (λ n. value.Decimal n)) (c.into_buffer-numbers.ensures ∙ ap (map g.T.DecimalWidth.unscaled) c.in_ok-kept.ensures.ok)
    ∙ rw c.as_slice.ensures (sym (kept_by-map (λ n. value.Decimal n) set (map g.T.DecimalWidth.unscaled c.args.items.now) ∙ ap (map (λ n. value.Decimal n)) (kept_by-map g.T.DecimalWidth.unscaled set c.args.items.now)))
