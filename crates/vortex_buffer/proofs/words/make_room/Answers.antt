use Rattle.std.proofs.Common.{ap, ◌∙◌}
use Rattle.vortex_buffer.specs.Bits.{bits_of, word_bit}
use Rattle.vortex_buffer.proofs.Growing.{bits_with_zero, holds_in_last, holds_in_new, unset_in_last, unset_in_new}
use Rattle.vortex_buffer.proofs.words.make_room.Goals as goal

pub returns-then-len-ne0-clause-unset : goal.returns-then-len-ne0-clause-unset
returns-then-len-ne0-clause-unset c = unset_in_last c.args.len c.args.words.now.items c.requires

pub returns-then-len-ne0-clause-holds : goal.returns-then-len-ne0-clause-holds
returns-then-len-ne0-clause-holds c = holds_in_last c.args.len c.args.words.now.items c.if-len-ne0.true c.requires

pub returns-clause-bits : goal.returns-clause-bits
returns-clause-bits c = ap (bits_of c.args.len) c.in_ok-push.ensures.items ∙ bits_with_zero c.args.len c.args.words.now.items c.requires

pub returns-clause-unset : goal.returns-clause-unset
returns-clause-unset c = ap (λ ws. word_bit ws c.args.len) c.in_ok-push.ensures.items ∙ unset_in_new c.args.len c.args.words.now.items c.if-len-ne0.false c.requires

pub returns-clause-holds : goal.returns-clause-holds
returns-clause-holds c = rw c.in_ok-push.ensures.items (holds_in_new c.args.len c.args.words.now.items c.if-len-ne0.false c.requires)
