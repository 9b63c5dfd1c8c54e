use Rattle.std.proofs.Common.{◌∙◌, Bool, List, ap, length, map, refl, sym}
use Rattle.std.specs.Prelude.{◌&&◌}
use Rattle.std.specs.Simd.Lanes.{zip2}
use Rattle.vortex_buffer.specs.Mask.{mask_bits}
use Rattle.vortex_scan_types.specs.Members.{in_some_range, places_of}
use Rattle.vortex_table_planner.proofs.Ranges.{as_long, covered_bits, joined_bits}
use Rattle.vortex_table_planner.proofs.planner.picked_rows.Goals as goal

pub returns-then-covers : goal.returns-then-covers
returns-then-covers c =
    c.in_ok-copy.ensures ∙ ap mask_bits c.mask-chosen.ensures ∙ c.in_ok-selected.ensures.bits ∙ covered_bits c.args.range.now c.args.selection.now c.args.rows.now (c.if-covers.ensures refl)

pub and-requires : goal.and-requires
and-requires c =
    ap length (c.from_buffer-inside.ensures ∙ c.in_ok-bits.ensures) ∙ as_long c.args.range.now c.args.selection.now c.args.rows.now
    ∙ sym (ap length (ap mask_bits c.mask-chosen.ensures ∙ c.in_ok-selected.ensures.bits))

pub returns : goal.returns
returns c =
    c.in_ok-both.ensures ∙ ap (λ (inside : List Bool). zip2 ◌&&◌ inside (mask_bits c.mask-chosen.result.now)) (c.from_buffer-inside.ensures ∙ c.in_ok-bits.ensures)
    ∙ ap (λ (chosen : List Bool). zip2 ◌&&◌ (map (in_some_range c.args.range.now) (places_of c.args.rows.now)) chosen) (ap mask_bits c.mask-chosen.ensures ∙ c.in_ok-selected.ensures.bits)
    ∙ joined_bits c.args.range.now c.args.selection.now c.args.rows.now
