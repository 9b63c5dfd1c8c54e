use Rattle.std.proofs.Common.{rules, length, ◌≡◌, ◌∙◌}
use Rattle.vortex_scan_types.proofs.Parts.{part_fits, others_by_part, all_others, no_others}
use Rattle.vortex_scan_types.proofs.listed_masks.other_mask.Goals as goal

pub returns-then-is_empty : goal.returns-then-is_empty
returns-then-is_empty c =
    let part = c.listed_within-part.result.now in
    let none : length part ≡ 0 = search rules in
    c.new_true.ensures
    ∙ all_others c.args.range.now.start c.args.range.now.end c.places_in-len.result part c.args.listed.now c.requires
    (record { is = c.listed_within-part.ensures; long = c.places_in-len.ensures }) none

pub returns-then-part-len : goal.returns-then-part-len
returns-then-part-len c =
    c.new_false.ensures
    ∙ no_others c.args.range.now.start c.args.range.now.end c.places_in-len.result c.listed_within-part.result.now c.args.listed.now c.requires
    (record { is = c.listed_within-part.ensures; long = c.places_in-len.ensures }) c.if-part-len.true

pub other_bits-requires : goal.other_bits-requires
other_bits-requires c =
    part_fits c.args.range.now.start c.args.range.now.end c.places_in-len.result c.listed_within-part.result.now c.args.listed.now
    (record { is = c.listed_within-part.ensures; long = c.places_in-len.ensures })

pub returns : goal.returns
returns c =
    c.from_buffer.ensures
    ∙ c.in_ok-other_bits.ensures
    ∙ others_by_part c.args.range.now.start c.args.range.now.end c.places_in-len.result c.listed_within-part.result.now c.args.listed.now
    (record { is = c.listed_within-part.ensures; long = c.places_in-len.ensures })
