use Rattle.std.proofs.Common.{◌≡◌, ◌∙◌, ◌++◌, ◌∷◌, [], ap, arith, cond, length, subst, sym, Some, true}
use Rattle.std.specs.HashMap.{get}
use Rattle.std.proofs.lemmas.List.{length_push}
use Rattle.vortex_array_kinds.specs.Pushed.{Grows, with_row}
use Rattle.vortex_dict_builders.specs.Indexed.{NullAt}
use Rattle.vortex_dict_builders.proofs.IndexLemmas.{null-kept}
use Rattle.vortex_dict_builders.proofs.ItemLemmas.{finds-more}
use Rattle.vortex_dict_builders.proofs.ValidityLemmas.{grows-more}
use Rattle.vortex_dict_builders.proofs.primitives.PrimitiveEntries.push_item.Goals as goal

pub invariant_of-self-2 : goal.invariant_of-self-2
invariant_of-self-2 g c =
    let e = c.self.inside in
    let v = e.validity in
    let xs = e.items.items in
    let item = c.args.item in
    let place : c.in_ok-place.place ≡ length xs = omega (arith, c.in_ok-place.ensures.number, c.len.ensures) in
    let grows = c.self.invariant.0.grows in
    let more = sym (length_push xs item) in
    let eq = g.T.PartialEq.eq in
    let new = rw (← c.self.view_is) at c.requires in
    rw (c.in_ok-push_entry.ensures.items, c.in_ok-push_entry.ensures.validity) (
      record {
        grows = subst (λ k. Grows (with_row true v) k) more (grows-more v (length xs) true grows);
        at = subst (λ k. NullAt (with_row true v) k e.null_place) more (null-kept v (length xs) e.null_place grows c.self.invariant.0.at);
      },
      finds-more eq g.T.NativeValue.number g.met.T.NativeValue.same_number xs v (get eq e.places) (get eq c.put_place.new.places) item grows c.self.invariant.1 new
          (λ q. c.put_place.ensures q ∙ ap (λ o. cond (eq item q) (Some c.in_ok-place.place) o) (c.in_ok-place.ensures.same q) ∙ ap (λ k. cond (eq item q) (Some k) (get eq e.places q)) place),
    )
