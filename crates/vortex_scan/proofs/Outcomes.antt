-- What follows of an answer, whichever it is.
use Rattle.std.proofs.Common.{Result, Ok, Err}
use Rattle.std.specs.Prelude.{IfErr, IfOk}

pub if_ok : {T E : Type 0} (P Q : T → Type 0) (r : Result T E) → ((x : T) → P x → Q x) → IfOk r P → IfOk r Q
if_ok P Q (Ok x) f p = f x p
if_ok P Q (Err e) f p = tt

pub if_err : {T E : Type 0} (P Q : E → Type 0) (r : Result T E) → ((e : E) → P e → Q e) → IfErr r P → IfErr r Q
if_err P Q (Ok x) f p = tt
if_err P Q (Err e) f p = f e p

pub if_ok_both : {T E : Type 0} (P Q R : T → Type 0) (r : Result T E) → ((x : T) → P x → Q x → R x) → IfOk r P → IfOk r Q → IfOk r R
if_ok_both P Q R (Ok x) f p q = f x p q
if_ok_both P Q R (Err e) f p q = tt

pub if_err_both : {T E : Type 0} (P Q R : E → Type 0) (r : Result T E) → ((e : E) → P e → Q e → R e) → IfErr r P → IfErr r Q → IfErr r R
if_err_both P Q R (Ok x) f p q = tt
if_err_both P Q R (Err e) f p q = f e p q
