use Rattle.std.proofs.Common.{◌∙◌, arith, sym}
use Rattle.std.proofs.lemmas.Bool.{true≢false}
use Rattle.vortex_array_order.proofs.ConstantRows.{constant-extremes, constant-none}
use Rattle.vortex_array_order.proofs.constants.ConstantArrayOrdered.extremes.Goals as goal

pub returns-then-len-eq0 : goal.returns-then-len-eq0
returns-then-len-eq0 c = constant-none c.args.self.now.len c.args.self.now.scalar.value (λ l. absurd (omega (arith, l, c.if-len-eq0.true, c.len.ensures.count)))

pub returns-then-is_null : goal.returns-then-is_null
returns-then-is_null c = constant-none c.args.self.now.len c.args.self.now.scalar.value (λ _. rw c.scalar.ensures at (c.is_null.ensures.0 c.if-is_null.true))

pub returns : goal.returns
returns c =
    constant-extremes c.args.self.now.len c.args.self.now.scalar.value (λ e. omega (arith, e, c.if-len-eq0.false, c.len.ensures.count))
    (λ e. true≢false (sym (c.is_null.ensures.1 (rw c.scalar.ensures e)) ∙ c.if-is_null.false))
