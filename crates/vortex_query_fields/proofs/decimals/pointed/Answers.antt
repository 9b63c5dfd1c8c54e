use Rattle.std.proofs.Common.{◌-◌, sym, length, ◌≡◌, None, ◌^◌}
use Rattle.std.specs.Prelude.{option_and_then}
use Rattle.vortex_query_fields.specs.Numbers.{below, digits_spelled, number_after}
use Rattle.vortex_query_fields.proofs.Wide.{known, none-either, wide, wide-front}
use Rattle.vortex_query_fields.proofs.decimals.pointed.Goals as goal

pub returns-in-None-more_digits-clause-value : goal.returns-in-None-more_digits-clause-value
returns-in-None-more_digits-clause-value c =
    let front = known (2 ^ 128) (digits_spelled c.args.whole.now) c.in-Some.number c.in-Some.ensures in
    let o = option_and_then (λ n. number_after n c.args.part.now) (digits_spelled c.args.whole.now) in
    let e : below (2 ^ 128) o ≡ None = rw front (sym c.in-None-more_digits.ensures) in
    none-either _ _ (wide o (c.args.scale - length c.args.part.now) c.args.precision c.requires.precision e)

pub returns-in-None-clause-value : goal.returns-in-None-clause-value
returns-in-None-clause-value c =
    let o = option_and_then (λ n. number_after n c.args.part.now) (digits_spelled c.args.whole.now) in
    none-either _ _ (wide o (c.args.scale - length c.args.part.now) c.args.precision c.requires.precision (wide-front (digits_spelled c.args.whole.now) c.args.part.now (sym c.in-None.ensures)))
