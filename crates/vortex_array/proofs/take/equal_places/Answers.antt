use Rattle.std.proofs.Common.{◌≡◌, ◌∙◌, ◌++◌, ◌∷◌, [], ap, arith, replicate}
use Rattle.std.proofs.lemmas.List.{replicate_more}
use Rattle.vortex_array.proofs.take.equal_places.Goals as goal

pub loop-preserved : goal.loop-preserved
loop-preserved g c =
    c.in_ok-push.ensures.items ∙ ap (λ xs. xs ++ c.args.place ∷ []) c.loop.invariant ∙ replicate_more c.loop.counter c.args.place

pub returns : goal.returns
returns g c =
    let all : c.loop.counter ≡ c.args.len = omega arith in
    c.loop.invariant ∙ ap (λ n. replicate n c.args.place) all
