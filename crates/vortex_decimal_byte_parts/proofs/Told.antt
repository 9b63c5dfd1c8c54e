-- What follows of answers, and answers that are told by truth values.
use Rattle.std.proofs.Common.{◌≡◌, Bool, true, false, not, sym, refl, Result, Ok, Err}
use Rattle.std.specs.Prelude.{IfErr, IfOk}

-- what is not missed holds
pub by-not : (b x : Bool) → b ≡ x → not b ≡ false → x ≡ true
by-not true x e h = sym e
by-not false x e h = absurd (cc h)

-- and what is missed does not
pub by-missed : (b x : Bool) → b ≡ x → not b ≡ true → x ≡ false
by-missed true x e h = absurd (cc h)
by-missed false x e h = sym e

-- what cannot be true is false
pub by-never : (b : Bool) → (b ≡ true → ⊥) → b ≡ false
by-never true f = absurd (f refl)
by-never false f = refl

-- what follows of two facts of an answer, whichever it is
pub ok-both : {T E : Type 0} (P Q R : T → Type 0) (r : Result T E) → ((x : T) → P x → Q x → R x) → IfOk r P → IfOk r Q → IfOk r R
ok-both P Q R (Ok x) f p q = f x p q
ok-both P Q R (Err e) f p q = tt

pub err-both : {T E : Type 0} (P Q R : E → Type 0) (r : Result T E) → ((e : E) → P e → Q e → R e) → IfErr r P → IfErr r Q → IfErr r R
err-both P Q R (Ok x) f p q = tt
err-both P Q R (Err e) f p q = f e p q
