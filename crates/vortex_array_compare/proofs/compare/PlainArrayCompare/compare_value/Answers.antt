use Rattle.std.proofs.Common.{sym}
use Rattle.vortex_array_types.specs.Order.{compares}
use Rattle.vortex_array_types.specs.Seen.{value_seen}
use Rattle.vortex_array_kinds.specs.Validities.{nullability_of}
use Rattle.vortex_array_compare.proofs.Tested.{Laws, bare-fits, counted-with}
use Rattle.vortex_array_compare.proofs.compare.PlainArrayCompare.compare_value.Goals as goal

pub compare_with-requires : goal.compare_with-requires
compare_with-requires g c =
    let law : Laws g.V.Values.type_of g.V.Values.items g.V.Values.count_of = record { counted = g.V.Values.counted; alike = g.V.Values.alike } in
    record { fits = rw c.stored.ensures.value (bare-fits _ _ _ law c.args.self.now.values (nullability_of c.args.self.now.validity) (value_seen c.args.value) c.requires.fits) }

pub value_answers-requires : goal.value_answers-requires
value_answers-requires g c =
    let a = c.args.self.now in
    counted-with (λ x. compares c.args.operator x (value_seen c.args.value)) (g.V.Values.items a.values) (g.V.Values.count_of a.values) c.in_ok-bits.bits (g.V.Values.counted a.values) (rw c.stored.ensures.value at c.in_ok-bits.ensures)

pub returns : goal.returns
returns g c = c.in_ok-answers.ensures (compares c.args.operator) c.args.dtype (value_seen c.args.value) (sym c.nullability.ensures) (rw c.stored.ensures.value at c.in_ok-bits.ensures)
