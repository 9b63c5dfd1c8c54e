use Rattle.vortex_scan_types.proofs.MaskLaws.{masks_count}
use Rattle.vortex_scan_types.proofs.laws.row_masks_count.Goals as goal

pub returns : goal.returns
returns c = masks_count
