use Rattle.std.proofs.Common.{List, Bool, ◌∙◌, ◌≡◌, ◌&&◌, sym, ap, length}
use Rattle.std.specs.Simd.Lanes.{zip2}
use Rattle.std.proofs.lemmas.Simd.{length-zip2}
use Rattle.vortex_array_kinds.specs.Truths.{BothValid}
use Rattle.vortex_array_kinds.specs.Parts.{PlainParts}
use Rattle.vortex_array_kinds.proofs.TruthColumns.{strict-made, same-bits}
use Rattle.vortex_array_kinds.proofs.kleene.PlainArray+BitBuffer.both_true.Goals as goal

pub both-requires-clause-other_long : goal.both-requires-clause-other_long
both-requires-clause-other_long c =
    let same = same-bits c.args.self.now c.args.other.now c.validity-left.ensures.fits c.validity-right.ensures.fits c.requires.same_length in
    rw (c.validity-right.ensures.value, c.len.ensures, c.bits.ensures.value, same) c.validity-right.ensures.fits

pub and-requires : goal.and-requires
and-requires c =
    let same = same-bits c.args.self.now c.args.other.now c.validity-left.ensures.fits c.validity-right.ensures.fits c.requires.same_length in
    ap length c.bits-2.ensures.value ∙ same ∙ sym (ap length c.bits-3.ensures.value)

pub new-requires : goal.new-requires
new-requires c =
    let same = same-bits c.args.self.now c.args.other.now c.validity-left.ensures.fits c.validity-right.ensures.fits c.requires.same_length in
    let bits : c.in_ok-bits.bits ≡ zip2 ◌&&◌ c.args.self.now.values c.args.other.now.values = c.in_ok-bits.ensures ∙ ap (λ xs. zip2 ◌&&◌ xs c.bits-3.result.now) c.bits-2.ensures.value ∙ ap (zip2 ◌&&◌ c.args.self.now.values) c.bits-3.ensures.value in
    let long : length c.in_ok-bits.bits ≡ c.len.result = ap length bits ∙ length-zip2 ◌&&◌ c.args.self.now.values c.args.other.now.values same ∙ sym (c.len.ensures ∙ ap length c.bits.ensures.value) in
    let valid = c.in_ok-validity.ensures in
    rw long valid.long

pub returns : goal.returns
returns c =
    let a : PlainParts (List Bool) = c.args.self.now in
    let b : PlainParts (List Bool) = c.args.other.now in
    let valid : BothValid (length a.values) a.validity b.validity c.in_ok-validity.validity =
    rw (c.validity-left.ensures.value, c.validity-right.ensures.value, c.len.ensures, c.bits.ensures.value) at c.in_ok-validity.ensures in
    strict-made a b c.in_ok-validity.validity c.in_ok-bits.bits c.new.result
    c.validity-left.ensures.fits c.validity-right.ensures.fits c.requires.same_length
    valid
    (c.in_ok-bits.ensures ∙ ap (λ xs. zip2 ◌&&◌ xs c.bits-3.result.now) c.bits-2.ensures.value ∙ ap (zip2 ◌&&◌ a.values) c.bits-3.ensures.value)
    c.new.ensures
