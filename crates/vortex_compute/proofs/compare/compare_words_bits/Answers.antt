use Rattle.std.proofs.Common.{arith, rules, sym, ap, ◌∙◌, ◌≡◌, ◌^◌, ◌<◌, map, length}
use mir.Val.{SFits}
use mir.Syntax.{w128}
use Rattle.std.proofs.lemmas.Int.{to_z-of_z}
use Rattle.std.specs.List.{zip}
use Rattle.std.proofs.lemmas.Slice.Zip.{length-zip}
use Rattle.vortex_buffer.specs.Bits.{packed_over}
use Rattle.vortex_compute.specs.Compare.{compares, pair_number}
use Rattle.vortex_buffer.specs.declared.compare_operator.CompareOperator.TheVariants.{Eq, NotEq}
use Rattle.vortex_compute.proofs.WordSteps.{packs_function}
use Rattle.vortex_compute.proofs.PairOrder.{by_words, by_words_holds, second_fits}
use Rattle.vortex_compute.proofs.compare.compare_words_bits.Goals as goal

pub map_bits_into-requires-clause-room : goal.map_bits_into-requires-clause-room
map_bits_into-requires-clause-room c =
    let left : c.new-lanes.result.left.slice ≡ c.args.msp = ap (λ lanes. lanes.slice) c.new-lanes.ensures.left ∙ c.new.ensures in
    let right : c.new-lanes.result.right.slice ≡ c.args.lower = ap (λ lanes. lanes.slice) c.new-lanes.ensures.right ∙ c.new-2.ensures in
    let pairs : zip c.new-lanes.result.left.slice.now c.new-lanes.result.right.slice.now ≡ zip c.args.msp.now c.args.lower.now = ap (λ slice. zip slice.now c.new-lanes.result.right.slice.now) left ∙ ap (λ slice. zip c.args.msp.now slice.now) right in
    omega (arith, ap length pairs, length-zip c.args.msp.now c.args.lower.now, c.requires.same_length, c.requires.room)

pub returns-in-Eq : goal.returns-in-Eq
returns-in-Eq c =
    let left : c.new-lanes.result.left.slice ≡ c.args.msp = ap (λ lanes. lanes.slice) c.new-lanes.ensures.left ∙ c.new.ensures in
    let right : c.new-lanes.result.right.slice ≡ c.args.lower = ap (λ lanes. lanes.slice) c.new-lanes.ensures.right ∙ c.new-2.ensures in
    let pairs : zip c.new-lanes.result.left.slice.now c.new-lanes.result.right.slice.now ≡ zip c.args.msp.now c.args.lower.now = ap (λ slice. zip slice.now c.new-lanes.result.right.slice.now) left ∙ ap (λ slice. zip c.args.msp.now slice.now) right in
    let high = c.words_of_number-high.result.0 in
    let low = c.words_of_number-high.result.1 in
    let whole : SFits w128 c.args.constant = c.ranges.constant in
    let number : pair_number high low ≡ c.args.constant = simp to_z-of_z at c.words_of_number-high.ensures.number in
    record {
      written =
          packs_function _ (λ pair. pair.1 < 2 ^ 64) (λ pair. compares c.args.operator (pair_number pair.0 pair.1) c.args.constant) (zip c.new-lanes.result.left.slice.now c.new-lanes.result.right.slice.now) c.args.words.now c.map_bits_into.new.words
          (λ pair answer fits p.
          let here : answer ≡ by_words Eq pair.0 pair.1 high low = search rules in
          here ∙ by_words_holds Eq pair.0 pair.1 high low fits c.words_of_number-high.ensures.low ∙ ap (compares Eq (pair_number pair.0 pair.1)) number ∙ ap (λ operator. compares operator (pair_number pair.0 pair.1) c.args.constant) (sym c.in-Eq.is))
          (rw pairs (second_fits c.args.msp.now c.args.lower.now (λ i. (c.type_inv.lower i).fits)))
          c.map_bits_into.ensures.written
          ∙ ap (λ zs. packed_over (map (λ pair. compares c.args.operator (pair_number pair.0 pair.1) c.args.constant) zs) c.args.words.now) pairs;
    }

pub map_bits_into-requires-in-NotEq-clause-room : goal.map_bits_into-requires-in-NotEq-clause-room
map_bits_into-requires-in-NotEq-clause-room c =
    let left : c.new-lanes.result.left.slice ≡ c.args.msp = ap (λ lanes. lanes.slice) c.new-lanes.ensures.left ∙ c.new.ensures in
    let right : c.new-lanes.result.right.slice ≡ c.args.lower = ap (λ lanes. lanes.slice) c.new-lanes.ensures.right ∙ c.new-2.ensures in
    let pairs : zip c.new-lanes.result.left.slice.now c.new-lanes.result.right.slice.now ≡ zip c.args.msp.now c.args.lower.now = ap (λ slice. zip slice.now c.new-lanes.result.right.slice.now) left ∙ ap (λ slice. zip c.args.msp.now slice.now) right in
    omega (arith, ap length pairs, length-zip c.args.msp.now c.args.lower.now, c.requires.same_length, c.requires.room)

pub returns-in-NotEq : goal.returns-in-NotEq
returns-in-NotEq c =
    let left : c.new-lanes.result.left.slice ≡ c.args.msp = ap (λ lanes. lanes.slice) c.new-lanes.ensures.left ∙ c.new.ensures in
    let right : c.new-lanes.result.right.slice ≡ c.args.lower = ap (λ lanes. lanes.slice) c.new-lanes.ensures.right ∙ c.new-2.ensures in
    let pairs : zip c.new-lanes.result.left.slice.now c.new-lanes.result.right.slice.now ≡ zip c.args.msp.now c.args.lower.now = ap (λ slice. zip slice.now c.new-lanes.result.right.slice.now) left ∙ ap (λ slice. zip c.args.msp.now slice.now) right in
    let high = c.words_of_number-high.result.0 in
    let low = c.words_of_number-high.result.1 in
    let whole : SFits w128 c.args.constant = c.ranges.constant in
    let number : pair_number high low ≡ c.args.constant = simp to_z-of_z at c.words_of_number-high.ensures.number in
    record {
      written =
          packs_function _ (λ pair. pair.1 < 2 ^ 64) (λ pair. compares c.args.operator (pair_number pair.0 pair.1) c.args.constant) (zip c.new-lanes.result.left.slice.now c.new-lanes.result.right.slice.now) c.args.words.now c.map_bits_into-in-NotEq.new.words
          (λ pair answer fits p.
          let here : answer ≡ by_words NotEq pair.0 pair.1 high low = search rules in
          here ∙ by_words_holds NotEq pair.0 pair.1 high low fits c.words_of_number-high.ensures.low ∙ ap (compares NotEq (pair_number pair.0 pair.1)) number ∙ ap (λ operator. compares operator (pair_number pair.0 pair.1) c.args.constant) (sym c.in-NotEq.is))
          (rw pairs (second_fits c.args.msp.now c.args.lower.now (λ i. (c.type_inv.lower i).fits)))
          c.map_bits_into-in-NotEq.ensures.written
          ∙ ap (λ zs. packed_over (map (λ pair. compares c.args.operator (pair_number pair.0 pair.1) c.args.constant) zs) c.args.words.now) pairs;
    }

pub returns-in-Gt : goal.returns-in-Gt
returns-in-Gt c =
    let whole : SFits w128 c.args.constant = c.ranges.constant in
    record {
      written = (simp to_z-of_z at c.words_above.ensures.written) ∙ ap (λ operator. packed_over (map (λ pair. compares operator (pair_number pair.0 pair.1) c.args.constant) (zip c.args.msp.now c.args.lower.now)) c.args.words.now) (sym c.in-Gt.is);
    }

pub returns-in-Gte : goal.returns-in-Gte
returns-in-Gte c =
    let whole : SFits w128 c.args.constant = c.ranges.constant in
    record {
      written = (simp to_z-of_z at c.words_at_least.ensures.written) ∙ ap (λ operator. packed_over (map (λ pair. compares operator (pair_number pair.0 pair.1) c.args.constant) (zip c.args.msp.now c.args.lower.now)) c.args.words.now) (sym c.in-Gte.is);
    }

pub returns-in-Lt : goal.returns-in-Lt
returns-in-Lt c =
    let whole : SFits w128 c.args.constant = c.ranges.constant in
    record {
      written = (simp to_z-of_z at c.words_below.ensures.written) ∙ ap (λ operator. packed_over (map (λ pair. compares operator (pair_number pair.0 pair.1) c.args.constant) (zip c.args.msp.now c.args.lower.now)) c.args.words.now) (sym c.in-Lt.is);
    }

pub returns-in-Lte : goal.returns-in-Lte
returns-in-Lte c =
    let whole : SFits w128 c.args.constant = c.ranges.constant in
    record {
      written = (simp to_z-of_z at c.words_at_most.ensures.written) ∙ ap (λ operator. packed_over (map (λ pair. compares operator (pair_number pair.0 pair.1) c.args.constant) (zip c.args.msp.now c.args.lower.now)) c.args.words.now) (sym c.in-Lte.is);
    }
