use Rattle.std.proofs.Common.{arith, sym, length}
use Rattle.vortex_buffer.proofs.Bits.{div_ceil-64}
use Rattle.vortex_buffer.proofs.WordLaws.{word_of-past}
use Rattle.vortex_array_rows.proofs.bit_rows.word_or_unset.Goals as goal

pub returns-else-k-div_ceil : goal.returns-else-k-div_ceil
returns-else-k-div_ceil c =
    sym (word_of-past c.args.bits.now c.args.k (omega (arith, c.if-k-div_ceil.false, c.div_ceil.ensures, c.len.ensures, div_ceil-64 (length c.args.bits.now))))
