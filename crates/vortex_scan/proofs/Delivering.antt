-- A delivery, from what its parts did.
use Rattle.std.proofs.Common.{◌≡◌, ◌∙◌, ℕ, sym, ap, subst, true, false, Bool, List, [], Some, IsTrue, slice_index_or}
use Rattle.std.specs.Prelude.{position, slice_get}
use Rattle.std.specs.List.{list_any}
use Rattle.std.proofs.Math.ListN.{set}
use Rattle.std.proofs.lemmas.Bool.{and_parts, eqb-true}
use Rattle.std.proofs.lemmas.Option.{slice_get-get_or}
use Rattle.std.proofs.lemmas.List.Quantifiers.{position-Some}
use Rattle.vortex_io.specs.declared.request.Completion.{Completion}
use Rattle.vortex_io.specs.declared.request.Fetch.{Fetch}
use Rattle.vortex_scan.specs.declared.item.Item.{Item}
use Rattle.vortex_scan_types.specs.declared.place.RootId.{RootId}
use Rattle.vortex_scan.specs.declared.worker.Worker.{Ghosts as Works}
use Rattle.vortex_scan.specs.Fails.{DeliversInVain}
use Rattle.vortex_scan.specs.Fetching.{is_answer}
use Rattle.vortex_scan.specs.RunState.{is_of_root}
use Rattle.vortex_scan.specs.Steps.{Delivers, Hands, expects, handed}
use Rattle.vortex_scan.proofs.Places.{at_position}

-- what stands at the place of the first item that expects a completion
pub expected : {W C : Type 0} (root : RootId) (completion : Completion C) (items : List (Item W)) (at : ℕ) (item : Item W) → position (expects root completion) items ≡ Some at → item ≡ slice_index_or items at item
    → (slice_get items at ≡ Some item) × (item.root ≡ root) × (list_any (is_answer completion) item.asked ≡ true)
expected root completion items at item first read =
    let within = position-Some (expects root completion) items at item first in
    let there : slice_get items at ≡ Some item = slice_get-get_or items at item within.0 ∙ ap (λ z. Some z) (sym read) in
    let passes = and_parts (is_of_root root item) (list_any (is_answer completion) item.asked) (at_position (expects root completion) items at item first there) in
    let same : item.root.0 ≡ root.0 = eqb-true _ _ passes.0 in
    (there, (λ i. record { 0 = same i }), passes.1)

module _ {W C E : Type 0} (works : Works W C E) (root : RootId) (completion : Completion C) (items : List (Item W)) (at : ℕ) (item now : Item W) (left : List Fetch) (work : W)
    (there : slice_get items at ≡ Some item) (of_root : item.root ≡ root) (hands : Hands works completion item left work) (is : now ≡ handed works item left work) where
  pub delivers_in_vain : now.ready ≡ false → left ≡ [] → DeliversInVain works root completion items
  delivers_in_vain parked none = record {
    at = at;
    item = item;
    there = there;
    of_root = of_root;
    work = work;
    hands = subst (λ (fetches : List Fetch). Hands works completion item fetches work) none hands;
    waits = sym (ap (λ (x : Item W). x.ready) is) ∙ parked;
  }

  pub delivers : (vain : Bool) → ((now.ready ≡ false) × (left ≡ []) → IsTrue vain) → vain ≡ false → Delivers works root completion items (set items at now)
  delivers vain if_vain well = record {
    at = at;
    item = item;
    there = there;
    of_root = of_root;
    left = left;
    work = work;
    hands = hands;
    waits = λ parked none. let t : vain ≡ true = if_vain (ap (λ (x : Item W). x.ready) is ∙ parked, none) in cc;
    now = ap (set items at) is;
  }
