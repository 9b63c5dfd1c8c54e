use Rattle.std.proofs.Common.{◌≡◌, ◌∙◌, ◌++◌, ◌∷◌, [], ap, arith, length, subst, sym, Some, false}
use Rattle.std.specs.Prelude.{nat_eq}
use Rattle.std.specs.HashMap.{get}
use Rattle.std.proofs.lemmas.List.{length_push}
use Rattle.vortex_array_kinds.specs.Pushed.{Grows, with_row}
use Rattle.vortex_array_lists.proofs.Pieces.{when_ok}
use Rattle.vortex_dict_builders.specs.Indexed.{NullAt, hash_number}
use Rattle.vortex_dict_builders.proofs.ChainLemmas.{chain-null, differ-null}
use Rattle.vortex_dict_builders.proofs.IndexLemmas.{null-put}
use Rattle.vortex_dict_builders.proofs.ValidityLemmas.{grows-more}
use Rattle.vortex_dict_builders.proofs.strings.StringEntries.push_null.Goals as goal

pub invariant_of-self-2 : goal.invariant_of-self-2
invariant_of-self-2 c =
    let e = c.self.inside in
    let v = e.validity in
    let lists = e.strings.lists in
    let olders : c.push.new.self.items ≡ e.older.items ++ 0 ∷ [] =
    c.push.ensures.items ∙ when_ok c.push.result (c.reserve.new.self.items ++ 0 ∷ []) c.reserve.new.self.items (c.push.ensures.succeeds (omega (arith, c.in_ok-reserve.ensures.ok))) ∙ ap (λ ys. ys ++ 0 ∷ []) c.in_ok-reserve.ensures.items
    in
    let place : c.len-place.result ≡ length lists = omega (arith, c.len-place.ensures, c.self.invariant.2.long) in
    let grows = c.self.invariant.0.grows in
    let more = sym (length_push lists []) in
    let nullable = rw (← c.self.view_is) at c.requires.nullable in
    let present = rw (← c.self.view_is) at c.requires.absent in
    rw (olders, c.in_ok-push_string.ensures.strings, c.in_ok-push_string.ensures.validity, place) (
      record {
        grows = subst (λ k. Grows (with_row false v) k) more (grows-more v (length lists) false grows);
        at = subst (λ k. NullAt (with_row false v) k (Some (length lists))) more (null-put v (length lists) grows nullable present);
      },
      differ-null lists v [] grows nullable c.self.invariant.1,
      chain-null (hash_number e.hasher) lists v [] (get nat_eq e.newest) e.older.items grows nullable c.self.invariant.2,
    )
