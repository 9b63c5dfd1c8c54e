use Rattle.std.proofs.Common.{◌∙◌, ap, map, sym}
use Rattle.vortex_array_rows.proofs.Slices.{slice-map}
use Rattle.vortex_array_types.specs.declared.scalar.Value.TheVariants as value
use Rattle.vortex_array_select.proofs.primitives.slice_in.Goals as goal

pub returns-clause-items : goal.returns-clause-items
returns-clause-items g c =
    ap (map (λ n. value.Int n)) (c.into_buffer.ensures.numbers ∙ ap (map g.T.NativeValue.number) c.in_ok-part.ensures.ok)
    ∙ rw c.as_slice.ensures (sym (slice-map (λ n. value.Int n) (map g.T.NativeValue.number c.args.items.now) c.args.start c.args.end ∙ ap (map (λ n. value.Int n)) (slice-map g.T.NativeValue.number c.args.items.now c.args.start c.args.end)))
