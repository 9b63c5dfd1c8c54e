use Rattle.vortex_decimal_byte_parts.proofs.PartRows.{equal-bits, plain-bits, plain-long}
use Rattle.vortex_decimal_byte_parts.proofs.numbers.part_validity.Goals as goal

pub returns-in_ok-validity-in-Primitive-clause-long :
    goal.returns-in_ok-validity-in-Primitive-clause-long
returns-in_ok-validity-in-Primitive-clause-long c =
    rw (c.in-Primitive.is, c.in_ok-validity-in-Primitive.ensures, c.validity.ensures.value) (plain-long c.in-Primitive.plain c.validity.ensures.fits)

pub returns-in_ok-validity-in-Primitive-clause-present :
    goal.returns-in_ok-validity-in-Primitive-clause-present
returns-in_ok-validity-in-Primitive-clause-present c =
    rw (c.in-Primitive.is, c.in_ok-validity-in-Primitive.ensures, c.validity.ensures.value) (plain-bits c.in-Primitive.plain c.validity.ensures.fits)

pub returns-in-Constant-clause-present : goal.returns-in-Constant-clause-present
returns-in-Constant-clause-present c =
    rw c.in-Constant.is (equal-bits c.equal_validity.result c.in-Constant.constant c.scalar.result.now c.scalar.ensures c.equal_validity.ensures.present)
