use Rattle.std.proofs.Common.{◌∙◌, sym, subst, refl, length}
use Rattle.std.specs.Prelude.{All, Contains}
use Rattle.vortex_table_types.specs.Answers.{within}
use Rattle.vortex_judge.proofs.Turns.{from_false, refused}
use Rattle.vortex_judge.proofs.judge.answers.Goals as goal

pub returns-then-not-are_named : goal.returns-then-not-are_named
returns-then-not-are_named c = refused c.are_named.ensures c.if-not-are_named.true (λ x. subst (λ s. All (λ b. Contains s b.scope) c.args.batches.now) (sym c.scopes.ensures) x.named)

pub returns-then-not-ordered : goal.returns-then-not-ordered
returns-then-not-ordered c = (
  (λ t. record {
    filled = c.are_filled.ensures.0 c.if-not-are_filled.false;
    named = subst (λ s. All (λ b. Contains s b.scope) c.args.batches.now) c.scopes.ensures (c.are_named.ensures.0 c.if-not-are_named.false);
    distinct = c.are_distinct.ensures.0 c.if-not-are_distinct.false;
    prefixes = c.in_ok-prefixes.ensures.0 c.if-not-prefixes.false;
    counted = c.count_is.ensures.0 c.if-not-count_is.false ∙ c.owed-count.ensures ∙ (λ i. within (c.limit.ensures i) (length (c.rows.ensures i)));
    in_order = λ o. from_false (sym c.if-not-ordered.true ∙ c.ordered.ensures ∙ o);
  }),
  λ a. refl,
)

pub returns : goal.returns
returns c = (
  (λ t. record {
    filled = c.are_filled.ensures.0 c.if-not-are_filled.false;
    named = subst (λ s. All (λ b. Contains s b.scope) c.args.batches.now) c.scopes.ensures (c.are_named.ensures.0 c.if-not-are_named.false);
    distinct = c.are_distinct.ensures.0 c.if-not-are_distinct.false;
    prefixes = c.in_ok-prefixes.ensures.0 c.if-not-prefixes.false;
    counted = c.count_is.ensures.0 c.if-not-count_is.false ∙ c.owed-count.ensures ∙ (λ i. within (c.limit.ensures i) (length (c.rows.ensures i)));
    in_order = λ o. c.in_ok-holds.ensures.0 t;
  }),
  λ a. c.in_ok-holds.ensures.1 (a.in_order (sym c.ordered.ensures ∙ c.if-not-ordered.false)),
)
