use Rattle.std.proofs.Common.{◌∙◌, ap, map, sym}
use Rattle.vortex_array_rows.proofs.Slices.{slice-map}
use Rattle.vortex_array_types.specs.declared.scalar.Value.TheVariants as value
use Rattle.vortex_array_select.proofs.decimals.slice_in.Goals as goal

pub returns-clause-items : goal.returns-clause-items
returns-clause-items g c =
    ap (map (λ n. value.Decimal n)) (c.into_buffer-numbers.ensures ∙ ap (map g.T.DecimalWidth.unscaled) c.in_ok-part.ensures.ok)
    ∙ rw c.as_slice.ensures (sym (slice-map (λ n. value.Decimal n) (map g.T.DecimalWidth.unscaled c.args.items.now) c.args.start c.args.end ∙ ap (map (λ n. value.Decimal n)) (slice-map g.T.DecimalWidth.unscaled c.args.items.now c.args.start c.args.end)))
