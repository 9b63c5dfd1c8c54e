use Rattle.std.proofs.Common.{◌∙◌, sym, subst}
use Rattle.std.specs.Prelude.{Contains}
use Rattle.vortex_judge.proofs.Turns.{one_more, not_all, from_false}
use Rattle.vortex_judge.proofs.judge.are_named.Goals as goal

pub loop-batch-preserved : goal.loop-batch-preserved
loop-batch-preserved c =
    one_more (λ b. Contains c.args.scopes.now b.scope) c.args.batches.now c.loop-batch.batch-index c.batch-item.result c.loop-batch-test.true c.batch-item.is
    (subst (λ s. Contains c.args.scopes.now s) c.scope.ensures (c.contains.ensures.0 c.if-not-contains.false)) c.loop-batch.invariant

pub returns-then-not-contains : goal.returns-then-not-contains
returns-then-not-contains c = (
  (λ t. from_false t),
  λ a. absurd (not_all (λ b. Contains c.args.scopes.now b.scope) c.args.batches.now c.loop-batch.batch-index c.batch-item.result c.loop-batch-test.true c.batch-item.is
      (λ p. from_false (sym c.if-not-contains.true ∙ c.contains.ensures.1 (subst (λ s. Contains c.args.scopes.now s) (sym c.scope.ensures) p))) a),
)
