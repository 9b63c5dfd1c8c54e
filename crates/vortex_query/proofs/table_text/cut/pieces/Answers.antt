use Rattle.std.proofs.Common.{arith, ◌≡◌, ◌∙◌, ◌∷◌, ◌++◌, [], ap, sym, rules, true, ℕ, List, map, Bor}
use Rattle.std.specs.List.{range_with_len}
use Rattle.std.specs.Result.{is_ok}
use Rattle.std.proofs.lemmas.List.{map-append}
use Rattle.std.proofs.lemmas.List.FromFn.{map-range_with_len_more}
use Rattle.vortex_query.specs.Spelled.{piece}
use Rattle.vortex_query.proofs.table_text.cut.pieces.Goals as goal

pub loop-place-preserved : goal.loop-place-preserved
loop-place-preserved c =
    let good : is_ok c.push.result ≡ true = search rules in
    let items = rw good at c.push.ensures.items in
    let seen = λ (part : Bor (List ℕ)). part.now in
    let at = piece c.args.size c.args.numbers.now in
    let k = c.loop-place.place in
    ap (map seen) items
    ∙ map-append seen c.loop-place.parts.items (c.piece.result ∷ [])
    ∙ ap (λ parts. parts ++ c.piece.result.now ∷ []) c.loop-place.invariant
    ∙ ap (λ part. map at (range_with_len 0 k) ++ part ∷ []) c.piece.ensures
    ∙ sym (map-range_with_len_more at 0 k k (omega arith))
