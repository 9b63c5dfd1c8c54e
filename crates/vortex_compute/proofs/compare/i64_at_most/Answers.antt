use Rattle.std.proofs.Common.{rules, ap, ◌∙◌, ◌≡◌, map}
use Rattle.vortex_buffer.specs.Bits.{packed_over}
use Rattle.std.specs.Bool.{⊤}
use Rattle.vortex_compute.specs.Compare.{compares}
use Rattle.vortex_buffer.specs.declared.compare_operator.CompareOperator.TheVariants.{Lte}
use Rattle.vortex_compute.proofs.WordSteps.{packs_function}
use Rattle.vortex_compute.proofs.compare.i64_at_most.Goals as goal

pub returns : goal.returns
returns c = record {
  written =
      packs_function _ (λ x. ⊤) (λ value. compares Lte value c.args.constant) c.new-lanes.result.slice.now c.args.words.now c.map_bits_into.new.words
      (λ value answer q p. let here : answer ≡ compares Lte value c.args.constant = search rules in here)
      (λ k d l. tt)
      c.map_bits_into.ensures.written
      ∙ ap (λ slice. packed_over (map (λ value. compares Lte value c.args.constant) slice.now) c.args.words.now) c.new-lanes.ensures;
}
