use Rattle.vortex_dict_builders.proofs.EncodingLemmas.{encodes-old}
use Rattle.vortex_dict_builders.proofs.builder.DictBuilder.code_of.Goals as goal

pub returns-in-Some-clause-taken : goal.returns-in-Some-clause-taken
returns-in-Some-clause-taken g c =
    rw (← c.self.view_is) (encodes-old _ _ (g.Code.NativeValue.number c.code_at.result) c.in-Some.place c.in-Some.ensures.some c.code_at.ensures)
