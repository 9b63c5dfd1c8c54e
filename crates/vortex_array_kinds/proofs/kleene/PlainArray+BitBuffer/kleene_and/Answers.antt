use Rattle.std.proofs.Common.{◌∙◌, ◌≡◌, ◌&&◌, sym, ap, length, map, not, List, Bool}
use Rattle.std.specs.Simd.Lanes.{zip2}
use Rattle.std.proofs.lemmas.List.{length-map}
use Rattle.std.proofs.lemmas.Simd.{length-zip2}
use Rattle.vortex_array_kinds.specs.Known.{KnownWhere}
use Rattle.vortex_array_kinds.specs.Parts.{PlainParts}
use Rattle.vortex_array_kinds.proofs.TruthColumns.{and-made, same-bits}
use Rattle.vortex_array_kinds.proofs.kleene.PlainArray+BitBuffer.kleene_and.Goals as goal

pub known_where-requires-clause-same_length : goal.known_where-requires-clause-same_length
known_where-requires-clause-same_length c =
    let same = same-bits c.args.self.now c.args.other.now c.validity-left.ensures.fits c.validity-right.ensures.fits c.requires.same_length in
    ap length c.in_ok-left_decides.ensures ∙ ap (λ (xs : List Bool). length (map not xs)) c.bits.ensures.value ∙ length-map c.args.self.now.values not ∙ same
    ∙ sym (ap length c.in_ok-right_decides.ensures ∙ ap (λ (xs : List Bool). length (map not xs)) c.bits-2.ensures.value ∙ length-map c.args.other.now.values not)

pub and-requires : goal.and-requires
and-requires c =
    let same = same-bits c.args.self.now c.args.other.now c.validity-left.ensures.fits c.validity-right.ensures.fits c.requires.same_length in
    ap length c.bits-3.ensures.value ∙ same ∙ sym (ap length c.bits-4.ensures.value)

pub new-requires : goal.new-requires
new-requires c =
    let same = same-bits c.args.self.now c.args.other.now c.validity-left.ensures.fits c.validity-right.ensures.fits c.requires.same_length in
    let decided : length c.in_ok-left_decides.left_decides ≡ length c.args.self.now.values = ap length c.in_ok-left_decides.ensures ∙ ap (λ (xs : List Bool). length (map not xs)) c.bits.ensures.value ∙ length-map c.args.self.now.values not in
    let bits : c.in_ok-bits.bits ≡ zip2 ◌&&◌ c.args.self.now.values c.args.other.now.values = c.in_ok-bits.ensures ∙ ap (λ xs. zip2 ◌&&◌ xs c.bits-4.result.now) c.bits-3.ensures.value ∙ ap (zip2 ◌&&◌ c.args.self.now.values) c.bits-4.ensures.value in
    let long : length c.in_ok-bits.bits ≡ length c.in_ok-left_decides.left_decides = ap length bits ∙ length-zip2 ◌&&◌ c.args.self.now.values c.args.other.now.values same ∙ sym decided in
    let known = c.in_ok-validity.ensures in
    rw long known.long

pub returns : goal.returns
returns c =
    let a : PlainParts (List Bool) = c.args.self.now in
    let b : PlainParts (List Bool) = c.args.other.now in
    let known : KnownWhere (length c.in_ok-left_decides.left_decides) a.validity c.in_ok-left_decides.left_decides b.validity c.in_ok-right_decides.right_decides c.in_ok-validity.validity =
    rw (c.validity-left.ensures.value, c.validity-right.ensures.value) at c.in_ok-validity.ensures in
    and-made a b c.in_ok-left_decides.left_decides c.in_ok-right_decides.right_decides c.in_ok-validity.validity c.in_ok-bits.bits c.new.result
    c.validity-left.ensures.fits c.validity-right.ensures.fits c.requires.same_length
    (c.in_ok-left_decides.ensures ∙ ap (map not) c.bits.ensures.value)
    (c.in_ok-right_decides.ensures ∙ ap (map not) c.bits-2.ensures.value)
    known
    (c.in_ok-bits.ensures ∙ ap (λ xs. zip2 ◌&&◌ xs c.bits-4.result.now) c.bits-3.ensures.value ∙ ap (zip2 ◌&&◌ a.values) c.bits-4.ensures.value)
    c.new.ensures
