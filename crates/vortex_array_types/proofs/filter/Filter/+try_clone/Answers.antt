use Rattle.std.proofs.Common.{◌∙◌, ap, sym}
use Rattle.vortex_array_types.specs.declared.filter.Filter.{Not, And, Or}
use Rattle.vortex_array_types.proofs.FilterCopies.{copy_of_one, copy_of_two}
use Rattle.vortex_array_types.proofs.filter.Filter.+try_clone.Goals as goal

pub returns-in-Not : goal.returns-in-Not
returns-in-Not t c = copy_of_one c.not_of.result c.try_clone.result c.get.result.now c.args.self.now c.not_of.ensures c.try_clone.ensures (c.in-Not.is ∙ ap Not (sym c.get.ensures))

pub returns-in-And : goal.returns-in-And
returns-in-And t c =
    copy_of_two And c.and_of.result c.try_clone-f.result c.try_clone-in-And.result c.get-in-And.result.now c.get-in-And-2.result.now c.args.self.now c.and_of.ensures c.try_clone-f.ensures c.try_clone-in-And.ensures
    (c.in-And.is ∙ ap (λ f. And f c.in-And.g) (sym c.get-in-And.ensures) ∙ ap (And c.get-in-And.result.now) (sym c.get-in-And-2.ensures))

pub returns-in-Or : goal.returns-in-Or
returns-in-Or t c =
    copy_of_two Or c.or_of.result c.try_clone-f-in-Or.result c.try_clone-in-Or.result c.get-in-Or.result.now c.get-in-Or-2.result.now c.args.self.now c.or_of.ensures c.try_clone-f-in-Or.ensures c.try_clone-in-Or.ensures
    (c.in-Or.is ∙ ap (λ f. Or f c.in-Or.g) (sym c.get-in-Or.ensures) ∙ ap (Or c.get-in-Or.result.now) (sym c.get-in-Or-2.ensures))
