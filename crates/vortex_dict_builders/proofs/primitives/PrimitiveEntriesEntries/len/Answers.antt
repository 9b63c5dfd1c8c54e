use Rattle.std.proofs.Common.{arith, ap, Some}
use Rattle.std.specs.HashMap.{get}
use Rattle.vortex_array_types.specs.declared.scalar.Value.{Value}
use Rattle.vortex_array_types.specs.declared.scalar.Value.TheVariants as value
use Rattle.vortex_array.specs.Single.{number_held}
use Rattle.vortex_dict_builders.proofs.IndexLemmas.{distinct-rows}
use Rattle.vortex_dict_builders.proofs.ItemLemmas.{items-differ}
use Rattle.vortex_dict_builders.proofs.ValidityLemmas.{rows-long}
use Rattle.vortex_dict_builders.proofs.primitives.PrimitiveEntriesEntries.len.Goals as goal

pub returns-clause-count : goal.returns-clause-count
returns-clause-count g c =
    let e = c.self.inside in
    rw (← c.self.view_is) (omega (arith, c.len.ensures, rows-long (λ item. value.Int (g.T.NativeValue.number item)) e.validity e.items.items c.self.invariant.0.grows))

pub returns-clause-distinct : goal.returns-clause-distinct
returns-clause-distinct g c =
    let e = c.self.inside in
    let number = g.T.NativeValue.number in
    rw (← c.self.view_is)
    (distinct-rows (λ item. value.Int (number item)) e.validity e.items.items e.null_place c.self.invariant.0.grows c.self.invariant.0.at
    (λ i j d l m p q same. items-differ g.T.PartialEq.eq number g.met.T.NativeValue.same_number e.items.items e.validity (get g.T.PartialEq.eq e.places) c.self.invariant.1 i j d l m p q (ap (λ (v : Value). number_held (Some v)) same)))
