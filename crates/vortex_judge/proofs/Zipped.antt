-- One more place of two lists.
use Rattle.std.proofs.Common.{◌≡◌, subst, ◌-◌, ◌≤◌, List, [], ◌∷◌, Bool, true, length, get_or, drop, take, arith}
use Rattle.std.specs.Prelude.{IsTrue, ◌↔◌}
use Rattle.std.specs.List.{AllZip}
use Rattle.std.proofs.lemmas.List.{take_all}

-- all items behind the first
abbrev behind : {A : Type 0} → List A → List A
behind xs = take (length xs - 1) (drop 1 xs)

all_behind : {A : Type 0} (x : A) (xs : List A) → behind (x ∷ xs) ≡ xs
all_behind x xs = take_all (length (x ∷ xs) - 1) xs (omega arith)

-- a test of the first place that passed, and then a test of all others
pub first_passed : {A B : Type 0} (R : A → B → Type 0) (xs : List A) (ys : List B) (x : A) (y : B) {t r : Bool} → 1 ≤ length xs → 1 ≤ length ys → x ≡ get_or xs 0 x → y ≡ get_or ys 0 y
    → (IsTrue t ↔ R x y) → t ≡ true → (IsTrue r ↔ AllZip R (behind xs) (behind ys)) → (IsTrue r ↔ AllZip R xs ys)
first_passed R [] ys x y l m e f p b q = absurd (omega (arith, l))
first_passed R (x' ∷ xs) [] x y l m e f p b q = absurd (omega (arith, m))
first_passed R (x' ∷ xs) (y' ∷ ys) x y {r = r} l m e f p b q =
    let rest : IsTrue r ↔ AllZip R xs ys = subst (λ zs. IsTrue r ↔ AllZip R xs zs) (all_behind y' ys) (subst (λ zs. IsTrue r ↔ AllZip R zs (behind (y' ∷ ys))) (all_behind x' xs) q) in
    ((λ i. (subst (λ z. R z y') e (subst (λ z. R x z) f (p.0 b)), rest.0 i)), λ z. rest.1 z.1)
