use Rattle.std.proofs.Common.{arith, rules, ap, ◌∙◌, ◌≡◌, ◌^◌, ◌<◌, map, length}
use mir.Val.{SFits}
use mir.Syntax.{w128}
use Rattle.std.proofs.lemmas.Int.{to_z-of_z}
use Rattle.std.specs.List.{zip}
use Rattle.std.proofs.lemmas.Slice.Zip.{length-zip}
use Rattle.vortex_buffer.specs.Bits.{packed_over}
use Rattle.vortex_compute.specs.Compare.{compares, pair_number}
use Rattle.vortex_buffer.specs.declared.compare_operator.CompareOperator.TheVariants.{Lte}
use Rattle.vortex_compute.proofs.WordSteps.{packs_function}
use Rattle.vortex_compute.proofs.PairOrder.{by_words, by_words_holds, second_fits}
use Rattle.vortex_compute.proofs.compare.words_at_most.Goals as goal

pub map_bits_into-requires-clause-room : goal.map_bits_into-requires-clause-room
map_bits_into-requires-clause-room c =
    let left : c.new-lanes.result.left.slice ≡ c.args.msp = ap (λ lanes. lanes.slice) c.new-lanes.ensures.left ∙ c.new.ensures in
    let right : c.new-lanes.result.right.slice ≡ c.args.lower = ap (λ lanes. lanes.slice) c.new-lanes.ensures.right ∙ c.new-2.ensures in
    let pairs : zip c.new-lanes.result.left.slice.now c.new-lanes.result.right.slice.now ≡ zip c.args.msp.now c.args.lower.now = ap (λ slice. zip slice.now c.new-lanes.result.right.slice.now) left ∙ ap (λ slice. zip c.args.msp.now slice.now) right in
    omega (arith, ap length pairs, length-zip c.args.msp.now c.args.lower.now, c.requires.same_length, c.requires.room)

pub returns : goal.returns
returns c =
    let left : c.new-lanes.result.left.slice ≡ c.args.msp = ap (λ lanes. lanes.slice) c.new-lanes.ensures.left ∙ c.new.ensures in
    let right : c.new-lanes.result.right.slice ≡ c.args.lower = ap (λ lanes. lanes.slice) c.new-lanes.ensures.right ∙ c.new-2.ensures in
    let pairs : zip c.new-lanes.result.left.slice.now c.new-lanes.result.right.slice.now ≡ zip c.args.msp.now c.args.lower.now = ap (λ slice. zip slice.now c.new-lanes.result.right.slice.now) left ∙ ap (λ slice. zip c.args.msp.now slice.now) right in
    let high = c.words_of_number-high.result.0 in
    let low = c.words_of_number-high.result.1 in
    let whole : SFits w128 c.args.constant = c.ranges.constant in
    let number : pair_number high low ≡ c.args.constant = simp to_z-of_z at c.words_of_number-high.ensures.number in
    record {
      written =
          packs_function _ (λ pair. pair.1 < 2 ^ 64) (λ pair. compares Lte (pair_number pair.0 pair.1) c.args.constant) (zip c.new-lanes.result.left.slice.now c.new-lanes.result.right.slice.now) c.args.words.now c.map_bits_into.new.words
          (λ pair answer fits p.
          let here : answer ≡ by_words Lte pair.0 pair.1 high low = search rules in
          here ∙ by_words_holds Lte pair.0 pair.1 high low fits c.words_of_number-high.ensures.low ∙ ap (compares Lte (pair_number pair.0 pair.1)) number)
          (rw pairs (second_fits c.args.msp.now c.args.lower.now (λ i. (c.type_inv.lower i).fits)))
          c.map_bits_into.ensures.written
          ∙ ap (λ zs. packed_over (map (λ pair. compares Lte (pair_number pair.0 pair.1) c.args.constant) zs) c.args.words.now) pairs;
    }
