use Rattle.std.proofs.Common.{◌≡◌, ◌∙◌, sym}
use Rattle.std.specs.List.{count_by}
use Rattle.vortex_dict.proofs.Short.{counted-once, unset-at}
use Rattle.vortex_dict.proofs.shortcuts.true_values.Goals as goal

pub returns-in-None : goal.returns-in-None
returns-in-None c = λ i. unset-at c.args.bits.now i c.in-None.ensures.none

pub returns-then-count-eq1 : goal.returns-then-count-eq1
returns-then-count-eq1 c =
    let one : count_by (λ bit. bit) c.args.bits.now ≡ 1 = sym c.count.ensures ∙ c.if-count-eq1.true in
    (λ i h. counted-once c.args.bits.now c.in-Some.first i one c.in-Some.ensures.set h, c.in-Some.ensures.set)
