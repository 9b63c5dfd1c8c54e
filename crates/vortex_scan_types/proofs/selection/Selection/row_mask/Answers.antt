use Rattle.std.proofs.Common.{arith, ap, length, ◌-◌}
use Rattle.std.proofs.lemmas.List.FromFn.{length-map-range_with_len}
use Rattle.vortex_scan_types.specs.Members.{in_selection}
use Rattle.vortex_scan_types.proofs.selection.Selection.row_mask.Goals as goal

pub new-requires : goal.new-requires
new-requires c =
    let first = c.args.range.now.start in
    let long = length-map-range_with_len (λ place. in_selection c.args.self.now place) first (c.args.range.now.end - first) in
    omega (arith, c.mask_start-row_offset.ensures.fits, ap length c.in_ok-mask.ensures, long)
