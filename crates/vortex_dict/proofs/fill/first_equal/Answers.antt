use Rattle.std.proofs.Common.{below_more, ◌∙◌, sym}
use Rattle.std.proofs.lemmas.Bool.{false≢true}
use Rattle.vortex_dict.proofs.fill.first_equal.Goals as goal

pub loop-place-preserved : goal.loop-place-preserved
loop-place-preserved c =
    below_more _ _ c.loop-place.invariant (λ e. false≢true (c.if-same_row.ensures.1 (c.value_at.ensures.value ∙ e ∙ sym c.value_ref.ensures.value)))
