-- Items that are found by a map from each to its place.
use Rattle.std.proofs.Common.{ℕ, ◌<◌, ◌≤◌, ◌≡◌, Bool, true, false, cond, List, [], ◌∷◌, ◌++◌, length, get_or, refl, sym, ap, subst, ◌∙◌, arith, Option, Some, None, inl, inr}
use Rattle.std.specs.Prelude.{ℤ, ◌⊎◌}
use Rattle.std.specs.Bool.{Decides}
use Rattle.std.proofs.lemmas.Bool.{cases_lt, false≢true}
use Rattle.std.proofs.lemmas.List.{get_or_append_left, get_or_push, length_push}
use Rattle.std.proofs.lemmas.Option.{same_Some}
use Rattle.vortex_array_types.specs.declared.types.Nullability.TheVariants as nulls
use Rattle.vortex_array_kinds.specs.Pushed.{Grows, with_row}
use Rattle.vortex_array_kinds.specs.Validities.{nullability_of, valid_at}
use Rattle.vortex_array_kinds.specs.declared.validity.Validity.{Validity}
use Rattle.vortex_dict_builders.specs.Indexed.{FindsItems, IsItem, NoItem}
use Rattle.vortex_dict_builders.proofs.ValidityLemmas.{valid-before, valid-last}

module _ {X : Type 0} (same : X → X → Bool) (number : X → ℤ) (decides : (x y : X) → Decides (same x y) (number x ≡ number y)) where
  -- an item is the same as itself, and as those that are the same as it
  same_itself : (x : X) → same x x ≡ true
  same_itself x = (decides x x).1 refl

  same_back : (x y : X) → same x y ≡ true → same y x ≡ true
  same_back x y e = (decides y x).1 (sym ((decides x y).0 e))

  same_on : (x y z : X) → same x y ≡ true → same y z ≡ true → same x z ≡ true
  same_on x y z e f = (decides x z).1 ((decides x y).0 e ∙ (decides y z).0 f)

  -- no item, and nothing found
  pub finds-none : (v : Validity) (found : X → Option ℕ) → ((x : X) → found x ≡ None) → FindsItems same [] v found
  finds-none v found none = record {
    listed = λ x d p l valid e. absurd (omega (arith, l));
    within = λ x p e. cc (sym (none x) ∙ e);
    valid = λ x p e. cc (sym (none x) ∙ e);
    there = λ x d p e. cc (sym (none x) ∙ e);
  }

  -- one more item that is a value
  pub finds-more : (items : List X) (v : Validity) (found next : X → Option ℕ) (x : X) → Grows v (length items) → FindsItems same items v found → NoItem same items v x → ((q : X) → next q ≡ cond (same x q) (Some (length items)) (found q))
      → FindsItems same (items ++ x ∷ []) (with_row true v) next
  finds-more items v found next x g h new updates = record {
    listed = λ q d p l valid e. listed q d p l valid e (cases_lt p (length items));
    within = λ q p e. (at q p e (same x q) refl).0;
    valid = λ q p e. (at q p e (same x q) refl).1;
    there = λ q d p e. (at q p e (same x q) refl).2 d;
  }
    where
      n : ℕ
      n = length items

      listed : (q d : X) (p : ℕ) → p < length (items ++ x ∷ []) → valid_at (with_row true v) p ≡ true → same q (get_or (items ++ x ∷ []) p d) ≡ true → (p < length items) ⊎ (length items ≤ p) → next q ≡ Some p
      listed q d p l valid e (inl before) =
          let here : same q (get_or items p d) ≡ true = ap (same q) (sym (get_or_append_left items (x ∷ []) d p before)) ∙ e in
          let there : valid_at v p ≡ true = sym (valid-before v (length items) p true g before) ∙ valid in
          updates q ∙ apart (same x q) refl here there ∙ h.listed q d p before there here
        where
          apart : (b : Bool) → same x q ≡ b → same q (get_or items p d) ≡ true → valid_at v p ≡ true → cond b (Some (length items)) (found q) ≡ found q
          apart false f here there = refl
          apart true f here there = absurd (new p d before there (same_on x q (get_or items p d) f here))
      listed q d p l valid e (inr from) =
          let last : length items ≡ p = omega (arith, from, l, length_push items x) in
          let here : same q x ≡ true = ap (same q) (sym (get_or_push items x d p last)) ∙ e in
          updates q ∙ ap (λ b. cond b (Some (length items)) (found q)) (same_back q x here) ∙ ap (λ k. Some k) last

      at : (q : X) (p : ℕ) → next q ≡ Some p → (b : Bool) → same x q ≡ b → (p < length (items ++ x ∷ [])) × (valid_at (with_row true v) p ≡ true) × ((d : X) → same q (get_or (items ++ x ∷ []) p d) ≡ true)
      at q p e true f =
          let last : length items ≡ p = same_Some (length items) p (sym (updates q ∙ ap (λ b. cond b (Some (length items)) (found q)) f) ∙ e) in (
            omega (arith, last, length_push items x),
            subst (λ k. valid_at (with_row true v) k ≡ true) last (valid-last v (length items) true g (λ _. refl)),
            λ d. ap (same q) (get_or_push items x d p last) ∙ same_back x q f,
          )
      at q p e false f =
          let old : found q ≡ Some p = sym (updates q ∙ ap (λ b. cond b (Some (length items)) (found q)) f) ∙ e in
          let before = h.within q p old in (
            omega (arith, before, length_push items x),
            valid-before v (length items) p true g before ∙ h.valid q p old,
            λ d. ap (same q) (get_or_append_left items (x ∷ []) d p before) ∙ h.there q d p old,
          )

  -- null behind the items
  pub finds-null : (items : List X) (v : Validity) (found : X → Option ℕ) (x : X) → Grows v (length items) → nullability_of v ≡ nulls.Nullable → FindsItems same items v found → FindsItems same (items ++ x ∷ []) (with_row false v) found
  finds-null items v found x g nullable h = record {
    listed = λ q d p l valid e. listed q d p l valid e (cases_lt p (length items));
    within = λ q p e. omega (arith, h.within q p e, length_push items x);
    valid = λ q p e. valid-before v (length items) p false g (h.within q p e) ∙ h.valid q p e;
    there = λ q d p e. ap (same q) (get_or_append_left items (x ∷ []) d p (h.within q p e)) ∙ h.there q d p e;
  }
    where
      listed : (q d : X) (p : ℕ) → p < length (items ++ x ∷ []) → valid_at (with_row false v) p ≡ true → same q (get_or (items ++ x ∷ []) p d) ≡ true → (p < length items) ⊎ (length items ≤ p) → found q ≡ Some p
      listed q d p l valid e (inl before) = h.listed q d p before (sym (valid-before v (length items) p false g before) ∙ valid) (ap (same q) (sym (get_or_append_left items (x ∷ []) d p before)) ∙ e)
      listed q d p l valid e (inr from) =
          let last : length items ≡ p = omega (arith, from, l, length_push items x) in
          absurd (false≢true (sym (subst (λ k. valid_at (with_row false v) k ≡ false) last (valid-last v (length items) false g (λ none. cc (sym none ∙ nullable)))) ∙ valid))

  -- items of one number are one
  pub items-differ : (items : List X) (v : Validity) (found : X → Option ℕ) → FindsItems same items v found → (i j : ℕ) (d : X) → i < length items → j < length items → valid_at v i ≡ true → valid_at v j ≡ true → number (get_or items i d) ≡ number (get_or items j d) → i ≡ j
  items-differ items v found h i j d l m p q e =
      let x = get_or items i d in
      same_Some i j (sym (h.listed x d i l p (same_itself x)) ∙ h.listed x d j m q ((decides x (get_or items j d)).1 e))

  -- an item that is not found is none of them
  pub not-found : (items : List X) (v : Validity) (found : X → Option ℕ) (x : X) → FindsItems same items v found → found x ≡ None → NoItem same items v x
  not-found items v found x h e = λ p d l valid f. cc (sym e ∙ h.listed x d p l valid f)

  -- and one that is stands at that place
  pub is-found : (items : List X) (v : Validity) (found : X → Option ℕ) (x : X) (p : ℕ) → FindsItems same items v found → found x ≡ Some p → IsItem same items v x p
  is-found items v found x p h e = record { within = h.within x p e; valid = h.valid x p e; here = λ d. h.there x d p e }
