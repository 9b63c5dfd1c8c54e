use Rattle.std.proofs.Common.{◌∙◌, ◌++◌, ◌∷◌, [], ap, arith}
use Rattle.vortex_array_lists.proofs.Pieces.{when_ok}
use Rattle.vortex_dict_builders.proofs.validities.push_entry.Goals as goal

pub returns-clause-items : goal.returns-clause-items
returns-clause-items g c =
    let item = c.args.item in
    c.push.ensures.items
    ∙ when_ok c.push.result (c.reserve.new.self.items ++ item ∷ []) c.reserve.new.self.items (c.push.ensures.succeeds (omega (arith, c.in_ok-reserve.ensures.ok)))
    ∙ ap (λ ys. ys ++ item ∷ []) c.in_ok-reserve.ensures.items
