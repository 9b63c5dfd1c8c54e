use Rattle.std.proofs.Common.{◌∙◌, sym, ap, refl, ◌∷◌, [], ◌++◌, inl, inr}
use Rattle.vortex_table_scan.proofs.roots.place_one.Goals as goal

pub returns-then-not-is_admitted-clause-placed : goal.returns-then-not-is_admitted-clause-placed
returns-then-not-is_admitted-clause-placed g c = inr (inl (refl, sym c.is_admitted.ensures ∙ c.if-not-is_admitted.true, refl, c.push_reserved.ensures.items))

pub returns-in-Ok-clause-placed : goal.returns-in-Ok-clause-placed
returns-in-Ok-clause-placed g c = inl (refl, sym c.is_admitted.ensures ∙ c.if-not-is_admitted.false, c.in-Ok.ensures.ok, refl)

pub returns-in-Err-clause-placed : goal.returns-in-Err-clause-placed
returns-in-Err-clause-placed g c = inr (inr (refl, sym c.is_admitted.ensures ∙ c.if-not-is_admitted.false, c.in-Err.ensures.err.1, c.push_reserved-in-Err.ensures.items ∙ ap (λ source. c.args.others.now.items ++ source ∷ []) c.in-Err.ensures.err.0))
