use Rattle.std.proofs.Common.{◌≡◌, ◌∙◌, ◌++◌, ◌∷◌, [], ap, arith, length, subst, sym, Some, false}
use Rattle.std.specs.HashMap.{get}
use Rattle.std.proofs.lemmas.List.{length_push}
use Rattle.vortex_array_kinds.specs.Pushed.{Grows, with_row}
use Rattle.vortex_dict_builders.specs.Indexed.{NullAt}
use Rattle.vortex_dict_builders.proofs.IndexLemmas.{null-put}
use Rattle.vortex_dict_builders.proofs.ItemLemmas.{finds-null}
use Rattle.vortex_dict_builders.proofs.ValidityLemmas.{grows-more}
use Rattle.vortex_dict_builders.proofs.primitives.PrimitiveEntries.push_null.Goals as goal

pub invariant_of-self-2 : goal.invariant_of-self-2
invariant_of-self-2 g c =
    let e = c.self.inside in
    let v = e.validity in
    let xs = e.items.items in
    let item = c.args.item in
    let place : c.len-place.result ≡ length xs = omega (arith, c.len-place.ensures) in
    let grows = c.self.invariant.0.grows in
    let more = sym (length_push xs item) in
    let nullable = rw (← c.self.view_is) at c.requires.nullable in
    let present = rw (← c.self.view_is) at c.requires.absent in
    rw (c.in_ok-push_entry.ensures.items, c.in_ok-push_entry.ensures.validity, place) (
      record {
        grows = subst (λ k. Grows (with_row false v) k) more (grows-more v (length xs) false grows);
        at = subst (λ k. NullAt (with_row false v) k (Some (length xs))) more (null-put v (length xs) grows nullable present);
      },
      finds-null g.T.PartialEq.eq g.T.NativeValue.number g.met.T.NativeValue.same_number xs v (get g.T.PartialEq.eq e.places) item grows nullable c.self.invariant.1,
    )
