use Rattle.vortex_decimal_byte_parts.proofs.PartRows.{equal-full, equal-held, plain-full, plain-held}
use Rattle.vortex_decimal_byte_parts.proofs.numbers.rows_hold.Goals as goal

pub returns-in-Primitive-clause-rows : goal.returns-in-Primitive-clause-rows
returns-in-Primitive-clause-rows c = rw c.in-Primitive.is (plain-held c.in-Primitive.plain c.validity-validity.ensures.fits)

pub returns-in-Primitive-clause-full : goal.returns-in-Primitive-clause-full
returns-in-Primitive-clause-full c = rw c.in-Primitive.is (plain-full c.in-Primitive.plain)

pub returns-in-Constant-clause-rows : goal.returns-in-Constant-clause-rows
returns-in-Constant-clause-rows c = rw c.in-Constant.is (equal-held c.in-Constant.constant (rw c.scalar.ensures at c.number_in-number.ensures.row))

pub returns-in-Constant-clause-full : goal.returns-in-Constant-clause-full
returns-in-Constant-clause-full c =
    rw c.in-Constant.is (λ e. equal-full c.in-Constant.constant ((rw c.scalar.ensures at c.number_in-number.ensures.full) e))
