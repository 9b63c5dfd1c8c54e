-- The first name that passes a test, in a filter over others.
use Rattle.std.proofs.Common.{rules, ◌≡◌, ◌∙◌, sym, ap, ℕ, List, ◌++◌, Bool}
use Rattle.std.specs.Prelude.{Option, Some, None, find}
use Rattle.std.specs.Option.{option_or}
use Rattle.std.proofs.lemmas.List.Folds.{find-append}
use Rattle.vortex_array_types.specs.declared.filter.Filter.{Filter, fold-Filter, Not, And, Or, the_lemmas}
use Rattle.vortex_array_types.specs.Typed.{names_step}

pub find_append : {X : Type 0} (p : X → Bool) (xs ys : List X) → find p (xs ++ ys) ≡ option_or (find p xs) (find p ys)
find_append p xs ys = find-append p xs ys

abbrev pub names : Filter → List (List ℕ)
names = fold-Filter (List (List ℕ)) names_step

names-Not : (f : Filter) → names (Not f) ≡ names f
names-Not f = search (rules, the_lemmas)

names-And : (f g : Filter) → names (And f g) ≡ names f ++ names g
names-And f g = search (rules, the_lemmas)

names-Or : (f g : Filter) → names (Or f g) ≡ names f ++ names g
names-Or f g = search (rules, the_lemmas)

-- what a search in the parts tells of the whole
module _ (p : List ℕ → Bool) (h f g f' : Filter) where
  pub unknown-Not : h ≡ Not f → f' ≡ f → find p (names f') ≡ find p (names h)
  unknown-Not e i = ap (λ x. find p (names x)) i ∙ ap (find p) (sym (names-Not f)) ∙ ap (λ x. find p (names x)) (sym e)

  in_whole-And : h ≡ And f g → find p (names h) ≡ option_or (find p (names f)) (find p (names g))
  in_whole-And e = ap (λ x. find p (names x)) e ∙ ap (find p) (names-And f g) ∙ find-append p (names f) (names g)

  in_whole-Or : h ≡ Or f g → find p (names h) ≡ option_or (find p (names f)) (find p (names g))
  in_whole-Or e = ap (λ x. find p (names x)) e ∙ ap (find p) (names-Or f g) ∙ find-append p (names f) (names g)

  -- the first part has one
  first : {o : Option (List ℕ)} (n : List ℕ) → o ≡ option_or (find p (names f)) (find p (names g)) → f' ≡ f → Some n ≡ find p (names f') → Some n ≡ o
  first n w i s = sym (w ∙ ap (λ x. option_or x (find p (names g))) (ap (λ x. find p (names x)) (sym i) ∙ sym s))

  pub first-And : (n : List ℕ) → h ≡ And f g → f' ≡ f → Some n ≡ find p (names f') → Some n ≡ find p (names h)
  first-And n e i s = first n (in_whole-And e) i s

  pub first-Or : (n : List ℕ) → h ≡ Or f g → f' ≡ f → Some n ≡ find p (names f') → Some n ≡ find p (names h)
  first-Or n e i s = first n (in_whole-Or e) i s

  -- the first part has none
  second : {o : Option (List ℕ)} (g' : Filter) → o ≡ option_or (find p (names f)) (find p (names g)) → f' ≡ f → None ≡ find p (names f') → g' ≡ g → find p (names g') ≡ o
  second g' w i s j = sym (w ∙ ap (λ x. option_or x (find p (names g))) (ap (λ x. find p (names x)) (sym i) ∙ sym s) ∙ ap (λ x. find p (names x)) (sym j))

  pub second-And : (g' : Filter) → h ≡ And f g → f' ≡ f → None ≡ find p (names f') → g' ≡ g → find p (names g') ≡ find p (names h)
  second-And g' e i s j = second g' (in_whole-And e) i s j

  pub second-Or : (g' : Filter) → h ≡ Or f g → f' ≡ f → None ≡ find p (names f') → g' ≡ g → find p (names g') ≡ find p (names h)
  second-Or g' e i s j = second g' (in_whole-Or e) i s j
