-- Calls that cannot fail.
use Rattle.std.proofs.Common.{Ok, Err, Option, Some, None}
use Rattle.std.specs.Prelude.{IfNone, IsOk, OnErr, OnOk, Result}
use Rattle.std.proofs.lemmas.Bool.{false≢true}

-- what holds after success holds where a call succeeds
pub succeeded : {T E P : Type 0} (r : Result T E) → IsOk r → OnOk r P → P
succeeded (Ok x) h p = p
succeeded (Err e) h p = absurd (false≢true h)

-- what holds anyway holds after a failure
pub on-failure : {T E P : Type 0} (r : Result T E) → P → OnErr r P
on-failure (Ok x) p = tt
on-failure (Err e) p = p

-- what follows from what holds where nothing is found
pub none-then : {A P Q : Type 0} (found : Option A) → (P → Q) → IfNone found P → IfNone found Q
none-then None f h = f h
none-then (Some x) f h = tt
