use Rattle.std.proofs.Common.{◌≡◌, ◌∙◌, ◌++◌, ◌∷◌, [], ap, arith, replicate}
use Rattle.std.proofs.lemmas.List.{replicate_more}
use Rattle.vortex_decimal_byte_parts.proofs.numbers.repeated.Goals as goal

pub loop-preserved : goal.loop-preserved
loop-preserved g c =
    c.in_ok-push.ensures.items ∙ ap (λ xs. xs ++ c.args.item ∷ []) c.loop.invariant ∙ replicate_more c.loop.counter c.args.item

pub returns : goal.returns
returns g c =
    let all : c.loop.counter ≡ c.args.len = omega arith in
    c.loop.invariant ∙ ap (λ n. replicate n c.args.item) all
