use Rattle.std.proofs.Common.{sym, ◌∙◌, get_or, arith, ◌+◌, ◌-◌, ◌*◌, ◌≤◌, ◌^◌}
use Rattle.vortex_query_fields.proofs.Counting.{digit-step, refused-other, refused-big, whole}
use Rattle.vortex_query_fields.proofs.digits.many_digits.Goals as goal

pub returns-then-not-is_ascii_digit : goal.returns-then-not-is_ascii_digit
returns-then-not-is_ascii_digit c =
    sym (refused-other (2 ^ 64) 0 c.loop-byte.number c.loop-byte.byte-index c.args.bytes.now c.loop-byte.invariant.1 c.loop-byte-test.true (sym c.is_ascii_digit.ensures.value ∙ c.if-not-is_ascii_digit.true))

pub returns-in_err-checked_mul : goal.returns-in_err-checked_mul
returns-in_err-checked_mul c =
    let h : 2 ^ 64 ≤ c.loop-byte.number * 10 = omega (arith, c.in_err-checked_mul.ensures) in
    c.from_residual.ensures ∙ sym (refused-big (2 ^ 64) 0 c.loop-byte.number c.loop-byte.byte-index c.args.bytes.now c.loop-byte.invariant.1 c.loop-byte-test.true (sym c.is_ascii_digit.ensures.value ∙ c.if-not-is_ascii_digit.false) (omega arith))

pub returns-in_err-number : goal.returns-in_err-number
returns-in_err-number c =
    let h : 2 ^ 64 ≤ c.loop-byte.number * 10 + (get_or c.args.bytes.now c.loop-byte.byte-index 0 - 48) = omega (arith, c.in_err-number.ensures, c.in_ok-checked_mul.ensures) in
    c.from_residual-in_err-number.ensures ∙ sym (refused-big (2 ^ 64) 0 c.loop-byte.number c.loop-byte.byte-index c.args.bytes.now c.loop-byte.invariant.1 c.loop-byte-test.true (sym c.is_ascii_digit.ensures.value ∙ c.if-not-is_ascii_digit.false) h)

pub loop-byte-preserved : goal.loop-byte-preserved
loop-byte-preserved c =
    let e = digit-step c.loop-byte.number c.loop-byte.byte-index c.args.bytes.now c.loop-byte-test.true (sym c.is_ascii_digit.ensures.value ∙ c.if-not-is_ascii_digit.false) in
    let h = c.in_ok-number.ensures in
    let m = c.in_ok-checked_mul.ensures in
    (omega arith, rw (h.1, m.1) (sym e ∙ c.loop-byte.invariant.1))

pub returns : goal.returns
returns c =
    sym (whole (2 ^ 64) 0 c.loop-byte.number c.loop-byte.byte-index c.args.bytes.now c.loop-byte.invariant.1 (omega arith) (omega arith))
