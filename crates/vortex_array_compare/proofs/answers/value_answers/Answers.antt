use Rattle.std.proofs.Common.{◌∙◌, length, sym}
use Rattle.std.specs.Prelude.{replicate}
use Rattle.std.proofs.lemmas.List.{length-replicate}
use Rattle.std.proofs.lemmas.Simd.{zip2_splat}
use Rattle.vortex_array_kinds.specs.Truths.{BothValid}
use Rattle.vortex_array_compare.proofs.Tested.{Laws, plain-rows, plain-side, repeated-side, tested-column}
use Rattle.vortex_array_compare.proofs.answers.value_answers.Goals as goal

pub both-requires : goal.both-requires
both-requires g c = record {
  self_long = rw (c.validity.ensures.value, c.len.ensures, c.requires) c.validity.ensures.fits;
  other_long = c.of_values-nulls.ensures.long c.len.result;
}

pub returns : goal.returns
returns g c = λ test t x kind is.
    let law : Laws g.V.Values.type_of g.V.Values.items g.V.Values.count_of = record { counted = g.V.Values.counted; alike = g.V.Values.alike } in
    let a = c.args.array.now in
    let xs = g.V.Values.items a.values in
    let v = c.in_ok-validity.validity in
    let nulls = c.of_values-nulls.ensures in
    let rows = plain-rows _ _ _ law a c.validity.ensures.fits ∙ sym (law.counted a.values) in
    let valid : BothValid (length c.args.bits) a.validity c.of_values-nulls.result v = rw (c.validity.ensures.value, c.len.ensures) at c.in_ok-validity.ensures in
    tested-column test xs (replicate _ x) a.validity c.of_values-nulls.result _ _ (plain-side _ _ _ law a c.validity.ensures.fits)
    (repeated-side x _ t c.of_values-nulls.result (record { kind = nulls.kind ∙ sym kind; present = nulls.present; long = nulls.long }))
    (sym rows ∙ sym (length-replicate _ x)) c.args.bits v c.new.result c.new.ensures (is ∙ sym (zip2_splat test xs _ x (sym rows))) valid
