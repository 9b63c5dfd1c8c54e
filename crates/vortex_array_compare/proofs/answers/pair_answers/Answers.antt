use Rattle.std.proofs.Common.{◌∙◌, length, sym}
use Rattle.vortex_array_kinds.specs.Truths.{BothValid}
use Rattle.vortex_array_compare.proofs.Tested.{Laws, plain-side, tested-column}
use Rattle.vortex_array_compare.proofs.answers.pair_answers.Goals as goal

pub both-requires : goal.both-requires
both-requires g c = record {
  self_long = rw (c.validity.ensures.value, c.len.ensures, c.requires.left) c.validity.ensures.fits;
  other_long = rw (c.validity-2.ensures.value, c.len.ensures, c.requires.right) c.validity-2.ensures.fits;
}

pub returns : goal.returns
returns g c = λ test is.
    let law : Laws g.V.Values.type_of g.V.Values.items g.V.Values.count_of = record { counted = g.V.Values.counted; alike = g.V.Values.alike } in
    let a = c.args.left.now in
    let b = c.args.right.now in
    let v = c.in_ok-validity.validity in
    let valid : BothValid (length c.args.bits) a.validity b.validity v = rw (c.validity.ensures.value, c.validity-2.ensures.value, c.len.ensures) at c.in_ok-validity.ensures in
    tested-column test (g.V.Values.items a.values) (g.V.Values.items b.values) a.validity b.validity _ _ (plain-side _ _ _ law a c.validity.ensures.fits) (plain-side _ _ _ law b c.validity-2.ensures.fits)
    (law.counted a.values ∙ sym c.requires.left ∙ c.requires.right ∙ sym (law.counted b.values)) c.args.bits v c.new.result c.new.ensures is valid
