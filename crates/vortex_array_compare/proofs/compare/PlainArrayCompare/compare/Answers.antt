use Rattle.std.proofs.Common.{◌∙◌, ◌≡◌, sym}
use Rattle.std.specs.Simd.Lanes.{zip2}
use Rattle.vortex_array_types.specs.Order.{compares}
use Rattle.vortex_array_kinds.specs.Validities.{nullability_of}
use Rattle.vortex_array_compare.proofs.Tested.{Laws, bare-types, counted-each, same-count}
use Rattle.vortex_array_compare.proofs.compare.PlainArrayCompare.compare.Goals as goal

pub compare_each-requires : goal.compare_each-requires
compare_each-requires g c =
    let law : Laws g.V.Values.type_of g.V.Values.items g.V.Values.count_of = record { counted = g.V.Values.counted; alike = g.V.Values.alike } in
    let a = c.args.self.now in
    let b = c.args.other.now in
    record {
      same_length = rw (c.stored.ensures.value, c.stored-2.ensures.value) (same-count _ _ _ law a b c.stored.ensures.fits c.stored-2.ensures.fits c.requires.same_length);
      same_type = rw (c.stored.ensures.value, c.stored-2.ensures.value) (bare-types _ _ _ law a.values b.values (nullability_of a.validity) (nullability_of b.validity) c.requires.same_type);
    }

pub pair_answers-requires : goal.pair_answers-requires
pair_answers-requires g c =
    let law : Laws g.V.Values.type_of g.V.Values.items g.V.Values.count_of = record { counted = g.V.Values.counted; alike = g.V.Values.alike } in
    let a = c.args.self.now in
    let b = c.args.other.now in
    let same = same-count _ _ _ law a b c.stored.ensures.fits c.stored-2.ensures.fits c.requires.same_length in
    let is : c.in_ok-bits.bits ≡ zip2 (compares c.args.operator) (g.V.Values.items a.values) (g.V.Values.items b.values) = rw (c.stored.ensures.value, c.stored-2.ensures.value) at c.in_ok-bits.ensures in
    let count = counted-each (compares c.args.operator) (g.V.Values.items a.values) (g.V.Values.items b.values) (g.V.Values.count_of a.values) c.in_ok-bits.bits (law.counted a.values) (law.counted b.values ∙ sym same) is in
    record { left = count; right = count ∙ same }

pub returns : goal.returns
returns g c = c.in_ok-answers.ensures (compares c.args.operator) (rw (c.stored.ensures.value, c.stored-2.ensures.value) at c.in_ok-bits.ensures)
