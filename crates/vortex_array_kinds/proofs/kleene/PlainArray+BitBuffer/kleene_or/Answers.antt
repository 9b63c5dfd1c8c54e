use Rattle.std.proofs.Common.{List, Bool, ◌∙◌, ◌≡◌, ◌||◌, sym, ap, length}
use Rattle.std.specs.Simd.Lanes.{zip2}
use Rattle.std.proofs.lemmas.Simd.{length-zip2}
use Rattle.vortex_array_kinds.specs.Known.{KnownWhere}
use Rattle.vortex_array_kinds.specs.Parts.{PlainParts}
use Rattle.vortex_array_kinds.proofs.TruthColumns.{or-made, same-bits}
use Rattle.vortex_array_kinds.proofs.kleene.PlainArray+BitBuffer.kleene_or.Goals as goal

pub known_where-requires-clause-same_length : goal.known_where-requires-clause-same_length
known_where-requires-clause-same_length c =
    let same = same-bits c.args.self.now c.args.other.now c.validity-left.ensures.fits c.validity-right.ensures.fits c.requires.same_length in
    ap length c.bits.ensures.value ∙ same ∙ sym (ap length c.bits-2.ensures.value)

pub or-requires : goal.or-requires
or-requires c =
    let same = same-bits c.args.self.now c.args.other.now c.validity-left.ensures.fits c.validity-right.ensures.fits c.requires.same_length in
    ap length c.bits-3.ensures.value ∙ same ∙ sym (ap length c.bits-4.ensures.value)

pub new-requires : goal.new-requires
new-requires c =
    let same = same-bits c.args.self.now c.args.other.now c.validity-left.ensures.fits c.validity-right.ensures.fits c.requires.same_length in
    let bits : c.in_ok-bits.bits ≡ zip2 ◌||◌ c.args.self.now.values c.args.other.now.values = c.in_ok-bits.ensures ∙ ap (λ xs. zip2 ◌||◌ xs c.bits-4.result.now) c.bits-3.ensures.value ∙ ap (zip2 ◌||◌ c.args.self.now.values) c.bits-4.ensures.value in
    let long : length c.in_ok-bits.bits ≡ length c.bits.result.now = ap length bits ∙ length-zip2 ◌||◌ c.args.self.now.values c.args.other.now.values same ∙ sym (ap length c.bits.ensures.value) in
    let known = c.in_ok-validity.ensures in
    rw long known.long

pub returns : goal.returns
returns c =
    let a : PlainParts (List Bool) = c.args.self.now in
    let b : PlainParts (List Bool) = c.args.other.now in
    let known : KnownWhere (length a.values) a.validity a.values b.validity b.values c.in_ok-validity.validity =
    rw (c.validity-left.ensures.value, c.validity-right.ensures.value, c.bits.ensures.value, c.bits-2.ensures.value) at c.in_ok-validity.ensures in
    or-made a b c.in_ok-validity.validity c.in_ok-bits.bits c.new.result
    c.validity-left.ensures.fits c.validity-right.ensures.fits c.requires.same_length
    known
    (c.in_ok-bits.ensures ∙ ap (λ xs. zip2 ◌||◌ xs c.bits-4.result.now) c.bits-3.ensures.value ∙ ap (zip2 ◌||◌ a.values) c.bits-4.ensures.value)
    c.new.ensures
