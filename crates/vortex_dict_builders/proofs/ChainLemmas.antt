-- Lists of bytes that are found by chains through the entries of one hash.
use Rattle.std.proofs.Common.{ℕ, ◌+◌, ◌-◌, ◌<◌, ◌≤◌, ◌≡◌, ◌==◌, Bool, true, false, cond, List, [], ◌∷◌, ◌++◌, length, get_or, refl, sym, ap, subst, ◌∙◌, arith, Option, Some, None, inl, inr}
use Rattle.std.specs.Prelude.{◌⊎◌}
use Rattle.std.proofs.lemmas.Bool.{cases_lt, false≢true}
use Rattle.std.proofs.lemmas.Bool.Decides.{Decides-eqb}
use Rattle.std.proofs.lemmas.List.{get_or_append_left, get_or_push, length_push}
use Rattle.vortex_array_types.specs.declared.types.Nullability.TheVariants as nulls
use Rattle.vortex_array_kinds.specs.Pushed.{Grows, with_row}
use Rattle.vortex_array_kinds.specs.Validities.{nullability_of, valid_at}
use Rattle.vortex_array_kinds.specs.declared.validity.Validity.{Validity}
use Rattle.vortex_dict_builders.specs.Indexed.{Chained, HasHash, IsAt, IsNewest, ListsDiffer, NowhereAt, Walks, number_of}
use Rattle.vortex_dict_builders.proofs.ValidityLemmas.{valid-before, valid-last}

module _ (hash : List ℕ → ℕ) where
  -- an entry keeps its hash as entries are added
  hash_on : (lists : List (List ℕ)) (v : Validity) (bytes : List ℕ) (b : Bool) (h p : ℕ) → Grows v (length lists) → HasHash hash lists v h p → HasHash hash (lists ++ bytes ∷ []) (with_row b v) h p
  hash_on lists v bytes b h p g e = record {
    within = omega (arith, e.within, length_push lists bytes);
    valid = valid-before v (length lists) p b g e.within ∙ e.valid;
    same = ap hash (get_or_append_left lists (bytes ∷ []) [] p e.within) ∙ e.same;
  }

  hash_back : (lists : List (List ℕ)) (v : Validity) (bytes : List ℕ) (b : Bool) (h p : ℕ) → Grows v (length lists) → p < length lists → HasHash hash (lists ++ bytes ∷ []) (with_row b v) h p → HasHash hash lists v h p
  hash_back lists v bytes b h p g l e = record {
    within = l;
    valid = sym (valid-before v (length lists) p b g l) ∙ e.valid;
    same = ap hash (sym (get_or_append_left lists (bytes ∷ []) [] p l)) ∙ e.same;
  }

  -- and the newest below a place stays that
  newest_on : (lists : List (List ℕ)) (v : Validity) (bytes : List ℕ) (b : Bool) (h below number : ℕ) → Grows v (length lists) → below ≤ length lists → IsNewest hash lists v h below number → IsNewest hash (lists ++ bytes ∷ []) (with_row b v) h below number
  newest_on lists v bytes b h below number g l e = record {
    within = e.within;
    here = λ some. hash_on lists v bytes b h (number - 1) g (e.here some);
    none = λ p from to has. e.none p from to (hash_back lists v bytes b h p g (omega (arith, to, l)) has);
  }

  -- also below the next place, where the entry there has another hash
  newest_wider : (lists : List (List ℕ)) (v : Validity) (h below number : ℕ) → IsNewest hash lists v h below number → (HasHash hash lists v h below → ⊥) → IsNewest hash lists v h (below + 1) number
  newest_wider lists v h below number e apart = record {
    within = omega (arith, e.within);
    here = e.here;
    none = λ p from to has. by_place p from has (cases_lt p below) to;
  }
    where
      by_place : (p : ℕ) → number ≤ p → HasHash hash lists v h p → (p < below) ⊎ (below ≤ p) → p < below + 1 → ⊥
      by_place p from has (inl before) to = e.none p from before has
      by_place p from has (inr behind) to = let last : p ≡ below = omega (arith, behind, to) in apart (subst (HasHash hash lists v h) last has)

  -- the older entries of those before a place stay
  older_on : (lists : List (List ℕ)) (v : Validity) (bytes : List ℕ) (b : Bool) (newest : ℕ → Option ℕ) (olders : List ℕ) (next p : ℕ) → Grows v (length lists) → Chained hash lists v newest olders → p < length lists → valid_at (with_row b v) p ≡ true
      → IsNewest hash (lists ++ bytes ∷ []) (with_row b v) (hash (get_or (lists ++ bytes ∷ []) p [])) p (get_or (olders ++ next ∷ []) p 0)
  older_on lists v bytes b newest olders next p g c l valid =
      let link : p < length olders = omega (arith, l, c.long) in
      let before = c.older p l (sym (valid-before v (length lists) p b g l) ∙ valid) in
      let on : p ≤ length lists = omega (arith, l) in
      rw (get_or_append_left lists (bytes ∷ []) [] p l, get_or_append_left olders (next ∷ []) 0 p link)
      (newest_on lists v bytes b (hash (get_or lists p [])) p (get_or olders p 0) g on before)

  -- one more entry that is a list
  pub chain-more : (lists : List (List ℕ)) (v : Validity) (bytes : List ℕ) (newest next : ℕ → Option ℕ) (olders : List ℕ) → Grows v (length lists) → Chained hash lists v newest olders
      → ((h : ℕ) → next h ≡ cond (hash bytes == h) (Some (length lists)) (newest h))
      → Chained hash (lists ++ bytes ∷ []) (with_row true v) next (olders ++ number_of (newest (hash bytes)) ∷ [])
  chain-more lists v bytes newest next olders g c updates = record {
    long = omega (arith, c.long, length_push lists bytes, length_push olders (number_of (newest (hash bytes))));
    newest = λ h. rw (updates h, length_push lists bytes) (by_hash h (hash bytes == h) refl);
    older = λ p l valid. by_place p l valid (cases_lt p (length lists));
  }
    where
      last_valid : valid_at (with_row true v) (length lists) ≡ true
      last_valid = valid-last v (length lists) true g (λ _. refl)

      last_here : get_or (lists ++ bytes ∷ []) (length lists) [] ≡ bytes
      last_here = get_or_push lists bytes [] (length lists) refl

      on : (h : ℕ) → IsNewest hash (lists ++ bytes ∷ []) (with_row true v) h (length lists) (number_of (newest h))
      on h = newest_on lists v bytes true h (length lists) (number_of (newest h)) g (omega arith) (c.newest h)

      by_hash : (h : ℕ) (b : Bool) → (hash bytes == h) ≡ b → IsNewest hash (lists ++ bytes ∷ []) (with_row true v) h (length lists + 1) (number_of (cond b (Some (length lists)) (newest h)))
      by_hash h true e = record {
        within = omega arith;
        here = λ some. let place : length lists ≡ length lists + 1 - 1 = omega arith in
            subst (HasHash hash (lists ++ bytes ∷ []) (with_row true v) h) place
            (record { within = omega (arith, length_push lists bytes); valid = last_valid; same = ap hash last_here ∙ (Decides-eqb (hash bytes) h).0 e });
        none = λ p from to has. omega (arith, from, to);
      }
      by_hash h false e = newest_wider (lists ++ bytes ∷ []) (with_row true v) h (length lists) (number_of (newest h)) (on h)
          (λ has. false≢true (sym e ∙ (Decides-eqb (hash bytes) h).1 (ap hash (sym last_here) ∙ has.same)))

      by_place : (p : ℕ) → p < length (lists ++ bytes ∷ []) → valid_at (with_row true v) p ≡ true → (p < length lists) ⊎ (length lists ≤ p)
          → IsNewest hash (lists ++ bytes ∷ []) (with_row true v) (hash (get_or (lists ++ bytes ∷ []) p [])) p (get_or (olders ++ number_of (newest (hash bytes)) ∷ []) p 0)
      by_place p l valid (inl before) = older_on lists v bytes true newest olders (number_of (newest (hash bytes))) p g c before valid
      by_place p l valid (inr from) =
          let last : length lists ≡ p = omega (arith, from, l, length_push lists bytes) in
          let link : length olders ≡ length lists = c.long in
          subst (λ k. IsNewest hash (lists ++ bytes ∷ []) (with_row true v) (hash (get_or (lists ++ bytes ∷ []) k [])) k (get_or (olders ++ number_of (newest (hash bytes)) ∷ []) k 0)) last
          (rw (last_here, get_or_push olders (number_of (newest (hash bytes))) 0 (length lists) link) (on (hash bytes)))

  -- null behind the lists
  pub chain-null : (lists : List (List ℕ)) (v : Validity) (bytes : List ℕ) (newest : ℕ → Option ℕ) (olders : List ℕ) → Grows v (length lists) → nullability_of v ≡ nulls.Nullable → Chained hash lists v newest olders
      → Chained hash (lists ++ bytes ∷ []) (with_row false v) newest (olders ++ 0 ∷ [])
  chain-null lists v bytes newest olders g nullable c = record {
    long = omega (arith, c.long, length_push lists bytes, length_push olders 0);
    newest = λ h. rw (length_push lists bytes)
        (newest_wider (lists ++ bytes ∷ []) (with_row false v) h (length lists) (number_of (newest h))
        (newest_on lists v bytes false h (length lists) (number_of (newest h)) g (omega arith) (c.newest h))
        (λ has. false≢true (sym last_null ∙ has.valid)));
    older = λ p l valid. by_place p l valid (cases_lt p (length lists));
  }
    where
      last_null : valid_at (with_row false v) (length lists) ≡ false
      last_null = valid-last v (length lists) false g (λ none. cc (sym none ∙ nullable))

      by_place : (p : ℕ) → p < length (lists ++ bytes ∷ []) → valid_at (with_row false v) p ≡ true → (p < length lists) ⊎ (length lists ≤ p)
          → IsNewest hash (lists ++ bytes ∷ []) (with_row false v) (hash (get_or (lists ++ bytes ∷ []) p [])) p (get_or (olders ++ 0 ∷ []) p 0)
      by_place p l valid (inl before) = older_on lists v bytes false newest olders 0 p g c before valid
      by_place p l valid (inr from) =
          let last : length lists ≡ p = omega (arith, from, l, length_push lists bytes) in
          absurd (false≢true (sym (subst (λ k. valid_at (with_row false v) k ≡ false) last last_null) ∙ valid))

  -- no list yet
  pub chain-none : (v : Validity) (newest : ℕ → Option ℕ) → ((h : ℕ) → newest h ≡ None) → Chained hash [] v newest []
  chain-none v newest none = record {
    long = refl;
    newest = λ h. rw (none h) (record { within = omega arith; here = λ some. absurd (omega (arith, some)); none = λ p from to has. omega (arith, to) });
    older = λ p l valid. absurd (omega (arith, l));
  }

  -- a walk begins at the newest entry of the hash
  pub walk-begins : (lists : List (List ℕ)) (v : Validity) (bytes : List ℕ) (newest : ℕ → Option ℕ) (olders : List ℕ) → Chained hash lists v newest olders → Walks hash lists v bytes (number_of (newest (hash bytes)))
  walk-begins lists v bytes newest olders c =
      let first = c.newest (hash bytes) in
      record {
        within = first.within;
        here = first.here;
        none = λ p from at. first.none p from at.within (record { within = at.within; valid = at.valid; same = ap hash at.here });
      }

  -- and goes on to the next older one
  pub walk-on : (lists : List (List ℕ)) (v : Validity) (bytes : List ℕ) (newest : ℕ → Option ℕ) (olders : List ℕ) (number place : ℕ) → Chained hash lists v newest olders → Walks hash lists v bytes number → 0 < number → place ≡ number - 1
      → (get_or lists place [] ≡ bytes → ⊥) → Walks hash lists v bytes (get_or olders place 0)
  walk-on lists v bytes newest olders number place c w some is apart =
      let has = subst (HasHash hash lists v (hash bytes)) (sym is) (w.here some) in
      let older = subst (λ h. IsNewest hash lists v h place (get_or olders place 0)) has.same (c.older place has.within has.valid) in
      record {
        within = omega (arith, older.within, has.within);
        here = older.here;
        none = λ p from at. by_place p from at older (cases_lt p place);
      }
    where
      by_place : (p : ℕ) → get_or olders place 0 ≤ p → IsAt lists v bytes p → IsNewest hash lists v (hash bytes) place (get_or olders place 0) → (p < place) ⊎ (place ≤ p) → ⊥
      by_place p from at older (inl before) = older.none p from before (record { within = at.within; valid = at.valid; same = ap hash at.here })
      by_place p from at older (inr behind) = by_end p at behind (cases_lt place p)
        where
          by_end : (p : ℕ) → IsAt lists v bytes p → place ≤ p → (place < p) ⊎ (p ≤ place) → ⊥
          by_end p at behind (inl further) = w.none p (omega (arith, further, is)) at
          by_end p at behind (inr upto) = let same : p ≡ place = omega (arith, behind, upto) in apart (subst (λ k. get_or lists k [] ≡ bytes) same at.here)

-- an entry of more is one of before, or the last
at_before : (lists : List (List ℕ)) (v : Validity) (bytes : List ℕ) (b : Bool) (i j : ℕ) → Grows v (length lists) → i < length lists → j < length lists → ListsDiffer lists v
    → valid_at (with_row b v) i ≡ true → valid_at (with_row b v) j ≡ true → get_or (lists ++ bytes ∷ []) i [] ≡ get_or (lists ++ bytes ∷ []) j [] → i ≡ j
at_before lists v bytes b i j g l m h p q e =
    h i j l m (sym (valid-before v (length lists) i b g l) ∙ p) (sym (valid-before v (length lists) j b g m) ∙ q)
    (sym (get_or_append_left lists (bytes ∷ []) [] i l) ∙ e ∙ get_or_append_left lists (bytes ∷ []) [] j m)

-- lists stay different with one that is none of them
pub differ-more : (lists : List (List ℕ)) (v : Validity) (bytes : List ℕ) → Grows v (length lists) → ListsDiffer lists v → NowhereAt lists v bytes → ListsDiffer (lists ++ bytes ∷ []) (with_row true v)
differ-more lists v bytes g h new = λ i j l m p q e. by_places i j l m p q e (cases_lt i (length lists)) (cases_lt j (length lists))
  where
    nowhere : (i j : ℕ) → i < length lists → length lists ≡ j → valid_at (with_row true v) i ≡ true → get_or (lists ++ bytes ∷ []) i [] ≡ get_or (lists ++ bytes ∷ []) j [] → ⊥
    nowhere i j l last p e = new i (record {
      within = l;
      valid = sym (valid-before v (length lists) i true g l) ∙ p;
      here = sym (get_or_append_left lists (bytes ∷ []) [] i l) ∙ e ∙ get_or_push lists bytes [] j last;
    })

    by_places : (i j : ℕ) → i < length (lists ++ bytes ∷ []) → j < length (lists ++ bytes ∷ []) → valid_at (with_row true v) i ≡ true → valid_at (with_row true v) j ≡ true → get_or (lists ++ bytes ∷ []) i [] ≡ get_or (lists ++ bytes ∷ []) j []
        → (i < length lists) ⊎ (length lists ≤ i) → (j < length lists) ⊎ (length lists ≤ j) → i ≡ j
    by_places i j l m p q e (inl before) (inl there) = at_before lists v bytes true i j g before there h p q e
    by_places i j l m p q e (inl before) (inr from) = absurd (nowhere i j before (omega (arith, from, m, length_push lists bytes)) p e)
    by_places i j l m p q e (inr from) (inl there) = absurd (nowhere j i there (omega (arith, from, l, length_push lists bytes)) q (sym e))
    by_places i j l m p q e (inr from) (inr behind) = omega (arith, from, behind, l, m, length_push lists bytes)

-- and with null
pub differ-null : (lists : List (List ℕ)) (v : Validity) (bytes : List ℕ) → Grows v (length lists) → nullability_of v ≡ nulls.Nullable → ListsDiffer lists v → ListsDiffer (lists ++ bytes ∷ []) (with_row false v)
differ-null lists v bytes g nullable h = λ i j l m p q e. at_before lists v bytes false i j g (before i l p) (before j m q) h p q e
  where
    last_null : valid_at (with_row false v) (length lists) ≡ false
    last_null = valid-last v (length lists) false g (λ none. cc (sym none ∙ nullable))

    by_place : (i : ℕ) → i < length (lists ++ bytes ∷ []) → valid_at (with_row false v) i ≡ true → (i < length lists) ⊎ (length lists ≤ i) → i < length lists
    by_place i l p (inl l') = l'
    by_place i l p (inr from) =
        let last : length lists ≡ i = omega (arith, from, l, length_push lists bytes) in
        absurd (false≢true (sym (subst (λ k. valid_at (with_row false v) k ≡ false) last last_null) ∙ p))

    before : (i : ℕ) → i < length (lists ++ bytes ∷ []) → valid_at (with_row false v) i ≡ true → i < length lists
    before i l p = by_place i l p (cases_lt i (length lists))
