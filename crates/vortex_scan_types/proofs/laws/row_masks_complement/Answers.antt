use Rattle.vortex_scan_types.proofs.MaskLaws.{masks_complement}
use Rattle.vortex_scan_types.proofs.laws.row_masks_complement.Goals as goal

pub returns : goal.returns
returns c = masks_complement
