use Rattle.vortex_scan_types.proofs.MaskLaws.{masks_join}
use Rattle.vortex_scan_types.proofs.laws.row_masks_join.Goals as goal

pub returns : goal.returns
returns c = masks_join
