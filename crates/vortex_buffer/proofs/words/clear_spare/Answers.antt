use Rattle.std.proofs.Common.{arith, ap, ◌<◌, ◌%◌, ◌-◌}
use Rattle.std.proofs.lemmas.Nat.{one_shl}
use Rattle.vortex_buffer.proofs.Bits.{bits_of-cleared, holds_whole}
use Rattle.vortex_buffer.proofs.words.clear_spare.Goals as goal

pub returns-then-spare-ne0-clause-bits : goal.returns-then-spare-ne0-clause-bits
returns-then-spare-ne0-clause-bits c =
    let s : c.args.len % 64 < 64 = omega arith in
    bits_of-cleared c.args.len c.args.words.now _ c.requires (ap (λ p. p - 1) (one_shl (c.args.len % 64) 64 s))

pub returns-else-spare-ne0-clause-holds : goal.returns-else-spare-ne0-clause-holds
returns-else-spare-ne0-clause-holds c = holds_whole c.args.len c.args.words.now c.requires (λ k. (c.type_inv.words k).fits) c.if-spare-ne0.false
