-- A number that passes 128 bits passes every precision.
use Rattle.std.proofs.Common.{◌≡◌, ◌≤◌, ◌^◌, ◌*◌, sym, ℕ, List, Bool, true, false, Option, Some, None, arith, refl, nat_lt}
use Rattle.std.specs.Prelude.{option_map, option_and_then, if◌then◌else◌}
use Rattle.std.proofs.lemmas.Bool.Decides.{nat_tests}
use Rattle.std.proofs.Math.Nat.{le-mul_of_pos_right, one-le-pow}
use Rattle.vortex_query_fields.specs.Numbers.{below, number_after}
use Rattle.vortex_query_fields.proofs.Counting.{too-big}
use Rattle.vortex_query_fields.proofs.Tens.{ten_fits}

pub past : (limit n : ℕ) → below limit (Some n) ≡ None → limit ≤ n
past limit n h = grind (arith, nat_tests)

not-below : (limit n : ℕ) → limit ≤ n → below limit (Some n) ≡ None
not-below limit n h = grind (arith, nat_tests)

pub wide : (o : Option ℕ) (k p : ℕ) → p ≤ 38 → below (2 ^ 128) o ≡ None → below (10 ^ p) (option_map (λ n. n * 10 ^ k) o) ≡ None
wide None k p h e = refl
wide (Some n) k p h e =
    let big = past (2 ^ 128) n e in
    let more = le-mul_of_pos_right {m = 10 ^ k} n (one-le-pow k 10 (omega arith)) in
    let small = ten_fits p h in
    not-below (10 ^ p) (n * 10 ^ k) (omega arith)

pub wide-front : (o : Option ℕ) (part : List ℕ) → below (2 ^ 128) o ≡ None → below (2 ^ 128) (option_and_then (λ n. number_after n part) o) ≡ None
wide-front None part e = refl
wide-front (Some n) part e = too-big (2 ^ 128) n part (past (2 ^ 128) n e)

-- the number below a limit is the number
go : (b : Bool) (m n : ℕ) → Some n ≡ (if b then Some m else None) → Some m ≡ Some n
go true m n e = sym e
go false m n e = absurd (cc e)

pub known : (limit : ℕ) (o : Option ℕ) (n : ℕ) → Some n ≡ below limit o → o ≡ Some n
known limit None n e = absurd (cc e)
known limit (Some m) n e = go (nat_lt m limit) m n e

pub none-either : (b : Bool) (o : Option ℕ) → o ≡ None → None ≡ (if b then o else None)
none-either true o e = sym e
none-either false o e = refl
