use Rattle.std.proofs.Common.{true, sym, ap, replicate, ◌∙◌}
use Rattle.vortex_scan_types.specs.Members.{bits_in_range, places_of}
use Rattle.vortex_scan_types.proofs.Parts.{all_hold}
use Rattle.vortex_scan_types.proofs.selection.Selection.mask_in_range.Goals as goal

pub returns-in-All : goal.returns-in-All
returns-in-All c =
    c.new_true.ensures
    ∙ ap (λ n. replicate n true) c.places_in.ensures
    ∙ sym (all_hold (places_of c.args.range.now))
    ∙ sym (ap (λ s. bits_in_range s c.args.range.now) c.in-All.is)
