use Rattle.std.proofs.Common.{◌≡◌, ◌∙◌, ◌++◌, ◌∷◌, [], ap, arith, cond, length, subst, sym, Some, true}
use Rattle.std.specs.Prelude.{nat_eq}
use Rattle.std.specs.HashMap.{get}
use Rattle.std.proofs.lemmas.List.{length_push}
use Rattle.vortex_array_kinds.specs.Pushed.{Grows, with_row}
use Rattle.vortex_array_lists.proofs.Pieces.{when_ok}
use Rattle.vortex_dict_builders.specs.Indexed.{NullAt, hash_number, number_of}
use Rattle.vortex_dict_builders.proofs.ChainLemmas.{chain-more, differ-more}
use Rattle.vortex_dict_builders.proofs.IndexLemmas.{null-kept}
use Rattle.vortex_dict_builders.proofs.ValidityLemmas.{grows-more}
use Rattle.vortex_dict_builders.proofs.strings.StringEntries.push_list.Goals as goal

pub invariant_of-self-2 : goal.invariant_of-self-2
invariant_of-self-2 c =
    let e = c.self.inside in
    let v = e.validity in
    let lists = e.strings.lists in
    let bytes = c.args.bytes.now in
    let next = c.newest_of-next.result in
    let newest = get nat_eq e.newest in
    let olders : c.push.new.self.items ≡ e.older.items ++ number_of (newest (hash_number e.hasher bytes)) ∷ [] =
    c.push.ensures.items ∙ when_ok c.push.result (c.place_with_room.new.older.items ++ next ∷ []) c.place_with_room.new.older.items (c.push.ensures.succeeds (omega (arith, c.in_ok-place.ensures.behind))) ∙ ap (λ ys. ys ++ next ∷ []) c.in_ok-place.ensures.kept
    ∙ ap (λ n. e.older.items ++ n ∷ []) (c.newest_of-next.ensures ∙ ap (λ h. number_of (newest h)) c.hash_of-hash.ensures)
    in
    let place : c.in_ok-place.place ≡ length lists = omega (arith, c.in_ok-place.ensures.number, c.self.invariant.2.long) in
    let grows = c.self.invariant.0.grows in
    let more = sym (length_push lists bytes) in
    let new = rw (← c.self.view_is) at c.requires.absent in
    rw (olders, c.in_ok-push_string.ensures.strings, c.in_ok-push_string.ensures.validity) (
      record {
        grows = subst (λ k. Grows (with_row true v) k) more (grows-more v (length lists) true grows);
        at = subst (λ k. NullAt (with_row true v) k e.null_place) more (null-kept v (length lists) e.null_place grows c.self.invariant.0.at);
      },
      differ-more lists v bytes grows c.self.invariant.1 new,
      chain-more (hash_number e.hasher) lists v bytes newest (get nat_eq c.put_newest.new.newest) e.older.items grows c.self.invariant.2
          (λ h. c.put_newest.ensures h ∙ ap (λ o. cond (nat_eq c.hash_of-hash.result h) (Some c.in_ok-place.place) o) (c.in_ok-place.ensures.same h)
          ∙ ap (λ k. cond (nat_eq c.hash_of-hash.result h) (Some k) (newest h)) place
          ∙ ap (λ k. cond (nat_eq k h) (Some (length lists)) (newest h)) c.hash_of-hash.ensures),
    )
