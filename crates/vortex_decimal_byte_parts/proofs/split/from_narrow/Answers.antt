use Rattle.vortex_decimal_byte_parts.proofs.SplitRows.{split-narrow}
use Rattle.vortex_decimal_byte_parts.proofs.split.from_narrow.Goals as goal

pub returns : goal.returns
returns c =
    rw (c.new.ensures, c.new-2.ensures.items, c.in_ok-validity.ensures, c.validity.ensures.value)
    (split-narrow c.args.decimal.now c.args.values c.requires.numbers c.requires.width c.requires.narrow c.requires.some)
