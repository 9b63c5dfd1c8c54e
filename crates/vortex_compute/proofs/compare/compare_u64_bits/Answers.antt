use Rattle.std.proofs.Common.{rules, sym, ap, ◌∙◌, ◌≡◌, pos, map}
use Rattle.vortex_buffer.specs.Bits.{packed_over}
use Rattle.std.specs.Bool.{⊤}
use Rattle.vortex_compute.specs.Compare.{compares}
use Rattle.vortex_buffer.specs.declared.compare_operator.CompareOperator.TheVariants.{Eq, NotEq, Gt, Gte}
use Rattle.vortex_compute.proofs.WordSteps.{packs_function}
use Rattle.vortex_compute.proofs.compare.compare_u64_bits.Goals as goal

pub returns-in-Eq : goal.returns-in-Eq
returns-in-Eq c = record {
  written =
      packs_function _ (λ x. ⊤) (λ value. compares c.args.operator (pos value) (pos c.args.constant)) c.new-lanes.result.slice.now c.args.words.now c.map_bits_into.new.words
      (λ value answer q p. let here : answer ≡ compares Eq (pos value) (pos c.args.constant) = search rules in here ∙ ap (λ operator. compares operator (pos value) (pos c.args.constant)) (sym c.in-Eq.is))
      (λ k d l. tt)
      c.map_bits_into.ensures.written
      ∙ ap (λ slice. packed_over (map (λ value. compares c.args.operator (pos value) (pos c.args.constant)) slice.now) c.args.words.now) c.new-lanes.ensures;
}

pub returns-in-NotEq : goal.returns-in-NotEq
returns-in-NotEq c = record {
  written =
      packs_function _ (λ x. ⊤) (λ value. compares c.args.operator (pos value) (pos c.args.constant)) c.new-lanes.result.slice.now c.args.words.now c.map_bits_into-in-NotEq.new.words
      (λ value answer q p. let here : answer ≡ compares NotEq (pos value) (pos c.args.constant) = search rules in here ∙ ap (λ operator. compares operator (pos value) (pos c.args.constant)) (sym c.in-NotEq.is))
      (λ k d l. tt)
      c.map_bits_into-in-NotEq.ensures.written
      ∙ ap (λ slice. packed_over (map (λ value. compares c.args.operator (pos value) (pos c.args.constant)) slice.now) c.args.words.now) c.new-lanes.ensures;
}

pub returns-in-Gt : goal.returns-in-Gt
returns-in-Gt c = record {
  written =
      packs_function _ (λ x. ⊤) (λ value. compares c.args.operator (pos value) (pos c.args.constant)) c.new-lanes.result.slice.now c.args.words.now c.map_bits_into-in-Gt.new.words
      (λ value answer q p. let here : answer ≡ compares Gt (pos value) (pos c.args.constant) = search rules in here ∙ ap (λ operator. compares operator (pos value) (pos c.args.constant)) (sym c.in-Gt.is))
      (λ k d l. tt)
      c.map_bits_into-in-Gt.ensures.written
      ∙ ap (λ slice. packed_over (map (λ value. compares c.args.operator (pos value) (pos c.args.constant)) slice.now) c.args.words.now) c.new-lanes.ensures;
}

pub returns-in-Gte : goal.returns-in-Gte
returns-in-Gte c = record {
  written =
      packs_function _ (λ x. ⊤) (λ value. compares c.args.operator (pos value) (pos c.args.constant)) c.new-lanes.result.slice.now c.args.words.now c.map_bits_into-in-Gte.new.words
      (λ value answer q p. let here : answer ≡ compares Gte (pos value) (pos c.args.constant) = search rules in here ∙ ap (λ operator. compares operator (pos value) (pos c.args.constant)) (sym c.in-Gte.is))
      (λ k d l. tt)
      c.map_bits_into-in-Gte.ensures.written
      ∙ ap (λ slice. packed_over (map (λ value. compares c.args.operator (pos value) (pos c.args.constant)) slice.now) c.args.words.now) c.new-lanes.ensures;
}

pub returns-in-Lt : goal.returns-in-Lt
returns-in-Lt c = record {
  written = c.u64_below.ensures.written ∙ ap (λ operator. packed_over (map (λ value. compares operator (pos value) (pos c.args.constant)) c.args.values.now) c.args.words.now) (sym c.in-Lt.is);
}

pub returns-in-Lte : goal.returns-in-Lte
returns-in-Lte c = record {
  written = c.u64_at_most.ensures.written ∙ ap (λ operator. packed_over (map (λ value. compares operator (pos value) (pos c.args.constant)) c.args.values.now) c.args.words.now) (sym c.in-Lte.is);
}
