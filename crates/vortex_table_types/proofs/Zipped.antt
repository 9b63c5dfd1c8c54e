-- Two lists of one length, place by place.
use Rattle.std.proofs.Common.{◌≡◌, ◌∙◌, ℕ, zero, suc, ◌<◌, List, [], ◌∷◌, ◌++◌, length, get_or, take, drop, ap, arith, refl, subst, false}
use Rattle.std.specs.Prelude.{All, IsTrue, MatchBool}
use Rattle.std.proofs.lemmas.List.{append-nil, drop_all, get_or_default, take_all}
use Rattle.std.specs.List.{AllZip}

-- what holds at each place holds of the lists
pub zipped : {A B : Type 0} (R : A → B → Type 0) (xs : List A) (ys : List B) → length xs ≡ length ys → ((k : ℕ) (d : A) (e : B) → k < length xs → R (get_or xs k d) (get_or ys k e)) → AllZip R xs ys
zipped R [] [] e h = tt
zipped R [] (y ∷ ys) e h = absurd (omega (arith, e))
zipped R (x ∷ xs) [] e h = absurd (omega (arith, e))
zipped R (x ∷ xs) (y ∷ ys) e h = (h 0 x y (omega arith), zipped R xs ys (omega (arith, e)) (λ k d g l. h (suc k) d g (omega (arith, l))))

-- lists so paired have one length
pub zipped-long : {A B : Type 0} (R : A → B → Type 0) (xs : List A) (ys : List B) → AllZip R xs ys → length xs ≡ length ys
zipped-long R [] [] z = refl
zipped-long R [] (y ∷ ys) z = absurd z
zipped-long R (x ∷ xs) [] z = absurd z
zipped-long R (x ∷ xs) (y ∷ ys) z = omega (arith, zipped-long R xs ys z.1)

-- and what holds of the lists holds at each place
pub zipped-at : {A B : Type 0} (R : A → B → Type 0) (xs : List A) (ys : List B) → AllZip R xs ys → (k : ℕ) (d : A) (e : B) → k < length xs → R (get_or xs k d) (get_or ys k e)
zipped-at R [] ys z k d e h = absurd (omega (arith, h))
zipped-at R (x ∷ xs) [] z k d e h = absurd z
zipped-at R (x ∷ xs) (y ∷ ys) z zero d e h = z.0
zipped-at R (x ∷ xs) (y ∷ ys) z (suc k) d e h = zipped-at R xs ys z.1 k d e (omega (arith, h))

-- a pair of elements, as they are read, stands at its place whatever the default is
pub zipped-read : {A B : Type 0} (R : A → B → Type 0) (xs : List A) (ys : List B) (k : ℕ) (x : A) (y : B) → k < length xs → length xs ≡ length ys → x ≡ get_or xs k x → y ≡ get_or ys k y → R x y → (d : A) (e : B) → R (get_or xs k d) (get_or ys k e)
zipped-read R xs ys k x y h l p q r d e =
    subst (λ v. R v (get_or ys k e)) (p ∙ get_or_default xs k x d h)
    (subst (λ w. R x w) (q ∙ get_or_default ys k y e (omega (arith, h, l))) r)

-- nothing stands between two lists that a test told apart
pub from_false : {A : Type 0} → IsTrue false → A
from_false h = absurd (subst (λ b. MatchBool b ⊥ (Unit {0})) h tt)

-- a list that was written over another of its length
pub written-over : {A : Type 0} (n : ℕ) (new old : List A) → length new ≡ length old → n ≡ length new → take n (new ++ drop (length new) old) ≡ new
written-over n new old e f = ap (λ rest. take n (new ++ rest)) (drop_all (length new) old (omega (arith, e))) ∙ ap (take n) (append-nil new) ∙ take_all n new (omega (arith, f))

-- two lists of one type, read with one default
pub zipped-same : {A : Type 0} (R : A → A → Type 0) (xs ys : List A) → length xs ≡ length ys → ((k : ℕ) (d : A) → k < length xs → R (get_or xs k d) (get_or ys k d)) → AllZip R xs ys
zipped-same R xs ys e h = zipped R xs ys e (λ k d x l. subst (R (get_or xs k d)) (get_or_default ys k d x (omega (arith, l, e))) (h k d l))

-- what each pair gives of its second holds of all seconds
pub zipped-all : {A : Type 0} (R : A → A → Type 0) (P : A → Type 0) → ((x y : A) → R x y → P y) → (xs ys : List A) → AllZip R xs ys → All P ys
zipped-all R P f xs ys z k d h = f (get_or xs k d) (get_or ys k d) (zipped-at R xs ys z k d d (omega (arith, h, zipped-long R xs ys z)))
