use Rattle.std.proofs.Common.{◌∙◌, ap, map, not}
use Rattle.vortex_array_kinds.proofs.TruthColumns.{not-made}
use Rattle.vortex_array_kinds.proofs.kleene.PlainArray+BitBuffer.negate.Goals as goal

pub returns : goal.returns
returns c =
    not-made c.args.self.now c.in_ok-validity.validity c.in_ok-bits.bits c.new.result
    (c.in_ok-validity.ensures ∙ c.validity.ensures.value)
    (c.in_ok-bits.ensures ∙ ap (map not) c.bits.ensures.value)
    c.new.ensures
