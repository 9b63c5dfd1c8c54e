use Rattle.std.proofs.Common.{◌≡◌, ◌<◌, ◌+◌, ◌-◌, ◌*◌, ◌^◌, ◌∙◌, sym, subst, arith, get_or}
use Rattle.vortex_query_fields.proofs.Counting.{digit-step, few-whole, fits, little, other-step}
use Rattle.vortex_query_fields.proofs.digits.few_digits.Goals as goal

pub returns-then-not-is_ascii_digit-clause-value : goal.returns-then-not-is_ascii_digit-clause-value
returns-then-not-is_ascii_digit-clause-value c =
    sym (sym c.loop-byte.invariant.1 ∙ other-step c.loop-byte.number c.loop-byte.byte-index c.args.bytes.now c.loop-byte-test.true (sym c.is_ascii_digit.ensures.value ∙ c.if-not-is_ascii_digit.true))

pub overflow_mul-number : goal.overflow_mul-number
overflow_mul-number c =
    let b = get_or c.args.bytes.now c.loop-byte.byte-index 0 in
    let k = c.args.before + c.loop-byte.byte-index in
    let small = little c.loop-byte.number b k c.loop-byte.invariant.0 (sym c.is_ascii_digit.ensures.value ∙ c.if-not-is_ascii_digit.false) in
    let whole = fits (c.loop-byte.number * 10 + (b - 48)) (k + 1) small (omega (arith, c.requires.few, c.loop-byte-test.true)) in
    omega (arith, whole)

pub overflow_add-number : goal.overflow_add-number
overflow_add-number c =
    let b = get_or c.args.bytes.now c.loop-byte.byte-index 0 in
    let k = c.args.before + c.loop-byte.byte-index in
    let small = little c.loop-byte.number b k c.loop-byte.invariant.0 (sym c.is_ascii_digit.ensures.value ∙ c.if-not-is_ascii_digit.false) in
    let whole = fits (c.loop-byte.number * 10 + (b - 48)) (k + 1) small (omega (arith, c.requires.few, c.loop-byte-test.true)) in
    omega (arith, whole)

pub loop-byte-preserved : goal.loop-byte-preserved
loop-byte-preserved c =
    let b = get_or c.args.bytes.now c.loop-byte.byte-index 0 in
    let i = c.loop-byte.byte-index in
    let k = c.args.before + i in
    let n = c.loop-byte.number * 10 + (b - 48) in
    let digit = sym c.is_ascii_digit.ensures.value ∙ c.if-not-is_ascii_digit.false in
    let small : n < 10 ^ (k + 1) = little c.loop-byte.number b k c.loop-byte.invariant.0 digit in
    let same : k + 1 ≡ c.args.before + (i + 1) = omega arith in
    (subst (λ j. n < 10 ^ j) same small, sym (digit-step c.loop-byte.number i c.args.bytes.now c.loop-byte-test.true digit) ∙ c.loop-byte.invariant.1)

pub returns-clause-value : goal.returns-clause-value
returns-clause-value c = few-whole c.args.start c.loop-byte.number c.loop-byte.byte-index c.args.bytes.now c.loop-byte.invariant.1 (omega (arith, c.loop-byte-test.false))
