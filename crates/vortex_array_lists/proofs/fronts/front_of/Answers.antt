use Rattle.std.proofs.Common.{◌∙◌}
use Rattle.vortex_array_lists.proofs.FrontOrder.{eight-bytes}
use Rattle.vortex_array_lists.proofs.fronts.front_of.Goals as goal

pub returns : goal.returns
returns c =
    c.from_be_bytes.ensures
    ∙ (rw (c.byte_or_zero.ensures, c.byte_or_zero-2.ensures, c.byte_or_zero-3.ensures, c.byte_or_zero-4.ensures, c.byte_or_zero-5.ensures, c.byte_or_zero-6.ensures, c.byte_or_zero-7.ensures, c.byte_or_zero-8.ensures) (eight-bytes c.args.bytes.now))
