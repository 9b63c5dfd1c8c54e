use Rattle.std.proofs.Common.{length}
use Rattle.vortex_dict_builders.proofs.ValidityLemmas.{grows-long}
use Rattle.vortex_dict_builders.proofs.primitives.PrimitiveEntriesEntries.to_array.Goals as goal

pub copied_array-requires : goal.copied_array-requires
copied_array-requires g c =
    let e = c.self.inside in
    rw c.deref.ensures.value (grows-long e.validity (length e.items.items) c.self.invariant.0.grows)

pub returns : goal.returns
returns g c = rw (← c.self.view_is, ← c.deref.ensures.value) c.copied_array.ensures
