-- Matching some suffix of a text.
use Rattle.std.proofs.Common.{◌≡◌, ◌∙◌, sym, refl, ap, ℕ, List, [], ◌∷◌, Bool, true, false, ◌||◌, ◌&&◌}
use Rattle.vortex_array_types.specs.Matches.{some_suffix, first_then, matches_chars}
use Rattle.vortex_array_predicates.specs.declared.like.Element.{Element}
use Rattle.vortex_array_predicates.specs.declared.like.Element.TheVariants.{AnyRun, AnyOne, Exactly}
use Rattle.vortex_array_predicates.specs.declared.like.Outcome.{Outcome}
use Rattle.vortex_array_predicates.specs.declared.like.Outcome.TheVariants.{Whole, Failed, Exhausted, Run}
use Rattle.vortex_array_predicates.specs.Outcomes.{asks, passes, settled, Settles}

-- what follows from each of two follows from either
either : (a b x : Bool) → (a ≡ true → x ≡ true) → (b ≡ true → x ≡ true) → (a || b) ≡ true → x ≡ true
either true b x f g e = f refl
either false b x f g e = g e

-- the second is enough for either
pub later : (a b : Bool) → b ≡ true → (a || b) ≡ true
later true b e = refl
later false b e = e

-- of both the second holds
pub second : (a b : Bool) → (a && b) ≡ true → b ≡ true
second true b e = e
second false b e = cc

-- two truths that follow from one another are one
pub same : (a b : Bool) → (a ≡ true → b ≡ true) → (b ≡ true → a ≡ true) → a ≡ b
same true b f g = sym (f refl)
same false true f g = g refl
same false false f g = refl

-- what the whole text passes, some suffix does
pub suffix-whole : (f : List ℕ → Bool) (text : List ℕ) → f text ≡ true → some_suffix f text ≡ true
suffix-whole f [] e = e
suffix-whole f (c ∷ text) e = ap (λ b. b || some_suffix f text) e

-- a suffix that passes one character and then the rest has that rest behind its first character
tail-suffix : (f g : List ℕ → Bool) (test : ℕ → Bool) → ((t : List ℕ) → f t ≡ first_then test g t) → (c : ℕ) (t : List ℕ)
    → some_suffix f (c ∷ t) ≡ true → some_suffix g t ≡ true
tail-suffix f g test h c [] e =
    either (f (c ∷ [])) (f []) (g []) (λ k. second (test c) (g []) (sym (h (c ∷ [])) ∙ k)) (λ k. let x : false ≡ true = sym (h []) ∙ k in cc) e
tail-suffix f g test h c (d ∷ t) e =
    either (f (c ∷ d ∷ t)) (some_suffix f (d ∷ t)) (some_suffix g (d ∷ t))
    (λ k. suffix-whole g (d ∷ t) (second (test c) (g (d ∷ t)) (sym (h (c ∷ d ∷ t)) ∙ k)))
    (λ k. later (g (d ∷ t)) (some_suffix g t) (tail-suffix f g test h d t k)) e

-- a suffix of a suffix is one
pub suffix-twice : (f g : List ℕ → Bool) → ((t : List ℕ) → f t ≡ some_suffix g t) → (t : List ℕ) → some_suffix f t ≡ true → some_suffix g t ≡ true
suffix-twice f g h [] e = sym (h []) ∙ e
suffix-twice f g h (c ∷ t) e =
    either (f (c ∷ t)) (some_suffix f t) (some_suffix g (c ∷ t)) (λ k. sym (h (c ∷ t)) ∙ k) (λ k. later (g (c ∷ t)) (some_suffix g t) (suffix-twice f g h t k)) e

-- the end of a text has no character
pub suffix-end : (t : List ℕ) → some_suffix (matches_chars []) t ≡ true
suffix-end [] = refl
suffix-end (c ∷ t) = suffix-end t

-- suffixes that pass the same test
pub suffix-same : (f g : List ℕ → Bool) → ((t : List ℕ) → f t ≡ g t) → (t : List ℕ) → some_suffix f t ≡ some_suffix g t
suffix-same f g h [] = h []
suffix-same f g h (c ∷ t) = ap (λ b. b || some_suffix f t) (h (c ∷ t)) ∙ ap (λ b. g (c ∷ t) || b) (suffix-same f g h t)

-- a suffix that asks for a suffix asks for one
pub suffix-run : (f g : List ℕ → Bool) → ((t : List ℕ) → f t ≡ some_suffix g t) → (t : List ℕ) → some_suffix f t ≡ some_suffix g t
suffix-run f g h t = same _ _ (λ x. suffix-twice f g h t x) (λ x. suffix-whole f t (h t ∙ x))

-- a suffix that passes one character and then the rest has that rest
suffix-rest : (g : List ℕ → Bool) (test : ℕ → Bool) (t : List ℕ) → some_suffix (first_then test g) t ≡ true → some_suffix g t ≡ true
suffix-rest g test [] e = let x : false ≡ true = e in cc
suffix-rest g test (c ∷ t) e =
    either (test c && g t) (some_suffix (first_then test g) t) (some_suffix g (c ∷ t))
    (λ k. later (g (c ∷ t)) (some_suffix g t) (suffix-whole g t (second (test c) (g t) k)))
    (λ k. later (g (c ∷ t)) (some_suffix g t) (suffix-rest g test t k)) e

-- a character that does not pass is passed over
pub pass-over : (test : ℕ → Bool) (g : List ℕ → Bool) (text rest : List ℕ) (c : ℕ) → text ≡ c ∷ rest → test c ≡ false
    → some_suffix (first_then test g) text ≡ some_suffix (first_then test g) rest
pass-over test g text rest c e p = ap (some_suffix (first_then test g)) e ∙ ap (λ b. (b && g rest) || some_suffix (first_then test g) rest) p

-- a character that passes is the first of two ways
pub pass-here : (test : ℕ → Bool) (g : List ℕ → Bool) (text rest : List ℕ) (c : ℕ) → text ≡ c ∷ rest → test c ≡ true
    → some_suffix (first_then test g) text ≡ (g rest || some_suffix (first_then test g) rest)
pass-here test g text rest c e p = ap (some_suffix (first_then test g)) e ∙ ap (λ b. (b && g rest) || some_suffix (first_then test g) rest) p

-- where the rest is told for all later places, it is told behind one more character
settled-all : (g : List ℕ → Bool) (test : ℕ → Bool) (t : List ℕ) (b : Bool) → g t ≡ b → some_suffix g t ≡ b → (g t || some_suffix (first_then test g) t) ≡ b
settled-all g test t b here all =
    same (g t || some_suffix (first_then test g) t) b
    (λ x. either (g t) (some_suffix (first_then test g) t) b (λ k. sym here ∙ k) (λ k. sym all ∙ suffix-rest g test t k) x)
    (λ x. ap (λ y. y || some_suffix (first_then test g) t) (here ∙ x))

-- an outcome that did not fail at the first place where it may come tells of all
pub settled-here : (g : List ℕ → Bool) (test : ℕ → Bool) (t : List ℕ) (o : Outcome) → (o ≡ Failed → ⊥) → g t ≡ settled o → Settles g t o
    → (g t || some_suffix (first_then test g) t) ≡ settled o
settled-here g test t Whole n here all = settled-all g test t true here all
settled-here g test t Failed n here all = absurd (n refl)
settled-here g test t Exhausted n here all = settled-all g test t false here all
settled-here g test t (Run pattern rest) n here all = settled-all g test t (settled (Run pattern rest)) here all

-- an element that takes a character asks for just one
asks-one : (el : Element) (c : ℕ) → passes el c ≡ true → (g : List ℕ → Bool) (t : List ℕ) → asks el g t ≡ first_then (passes el) g t
asks-one AnyRun c e g t = cc
asks-one AnyOne c e g t = refl
asks-one (Exactly wanted) c e g t = refl

-- f is the whole pattern and k what is left of it, whose first element is el, before g; the whole text and what is left of it
module _ (f k g : List ℕ → Bool) (el : Element) (whole left : List ℕ) (asked : (t : List ℕ) → k t ≡ asks el g t) where
  -- one character more is matched
  pub step-here : (c : ℕ) (rest : List ℕ) → passes el c ≡ true → left ≡ c ∷ rest → f whole ≡ k left → f whole ≡ g rest
  step-here c rest p s h = h ∙ ap k s ∙ asked (c ∷ rest) ∙ asks-one el c p g (c ∷ rest) ∙ ap (λ b. b && g rest) p

  -- and no later place of the text has more to offer
  pub step-later : (c : ℕ) (rest : List ℕ) → passes el c ≡ true → left ≡ c ∷ rest → (some_suffix f whole ≡ true → some_suffix k left ≡ true)
      → some_suffix f whole ≡ true → some_suffix g rest ≡ true
  step-later c rest p s h x = tail-suffix k g (passes el) (λ t. asked t ∙ asks-one el c p g t) c rest (ap (some_suffix k) (sym s) ∙ h x)

  -- a run is reached: the first place where the pattern matches decides for all
  pub run-later : el ≡ AnyRun → f whole ≡ k left → (some_suffix f whole ≡ true → some_suffix k left ≡ true) → some_suffix f whole ≡ some_suffix g left
  run-later i h l =
      let e : (t : List ℕ) → k t ≡ some_suffix g t = λ t. asked t ∙ ap (λ z. asks z g t) i in
      same _ _ (λ x. suffix-twice k g e left (l x)) (λ x. suffix-whole f whole (h ∙ e left ∙ x))
