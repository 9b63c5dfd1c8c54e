use Rattle.std.proofs.Common.{arith, not, sym, ap, ◌≡◌, ◌-◌, ◌∙◌}
use Rattle.std.specs.List.{count_by}
use Rattle.vortex_scan_types.specs.Members.{count_in_range, is_listed, places_of}
use Rattle.vortex_scan_types.specs.declared.selection.Selection.TheVariants.{ExcludeByIndex}
use Rattle.vortex_scan_types.proofs.Counted.{count_all, count_both}
use Rattle.vortex_scan_types.proofs.selection.Selection.row_count_in_range.Goals as goal

pub returns-in-All : goal.returns-in-All
returns-in-All c =
    c.places_in.ensures
    ∙ sym (count_all (places_of c.args.range.now))
    ∙ sym (ap (λ s. count_in_range s c.args.range.now) c.in-All.is)

pub returns-in-ExcludeByIndex : goal.returns-in-ExcludeByIndex
returns-in-ExcludeByIndex c =
    let range = c.args.range.now in
    let listed = c.as_slice-in-ExcludeByIndex.result.now in
    let both = count_both (λ place. is_listed listed place) (places_of range) in
    let others : c.places_in-in-ExcludeByIndex.result - c.listed_count-in-ExcludeByIndex.result ≡ count_by (λ place. not (is_listed listed place)) (places_of range) = omega (arith, both, c.places_in-in-ExcludeByIndex.ensures, c.listed_count-in-ExcludeByIndex.ensures) in
    others
    ∙ ap (λ ys. count_in_range (ExcludeByIndex ys) range) c.as_slice-in-ExcludeByIndex.ensures.items
    ∙ sym (ap (λ s. count_in_range s range) c.in-ExcludeByIndex.is)
