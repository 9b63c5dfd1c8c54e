-- Numbers in widths, by their sizes.
use Rattle.std.proofs.Common.{◌≡◌, ◌<◌, ◌≤◌, ◌^◌, ◌∙◌, ap, sym, ℕ, zero, suc, ℤ, pos, negsuc, neg_ℤ, Bool, false, Option, Some, None, IfSome, is_some, arith, refl, option_map}
use Rattle.std.specs.Prelude.{if◌then◌else◌}
use Rattle.std.proofs.lemmas.Bool.Decides.{nat_tests}
use Rattle.vortex_array_types.specs.declared.types.PType.{PType}
use Rattle.vortex_array_types.specs.declared.types.PType.TheVariants.{U8, U16, U32, U64, I8, I16, I32, I64}
use Rattle.vortex_array_types.specs.Row.{in_width}
use Rattle.vortex_query_fields.specs.Numbers.{below, where_in}
use Rattle.vortex_query_fields.proofs.Wide.{known, past}

-- an item that is found exactly where its number passes
pub found : {X : Type 0} (number : X → ℤ) (test : ℤ → Bool) (z : ℤ) (r : Option X) → IfSome r (λ x. number x ≡ z) → is_some r ≡ test z → option_map number r ≡ where_in test (Some z)
found number test z None v e = ap (λ b. if b then Some z else None) e
found number test z (Some x) v e = ap Some v ∙ ap (λ b. if b then Some z else None) e

outside : (test : ℤ → Bool) (z : ℤ) → test z ≡ false → where_in test (Some z) ≡ None
outside test z e = ap (λ b. if b then Some z else None) e

-- a number past 64 bits is in no width
pub great : (w : PType) (n : ℕ) → 2 ^ 64 ≤ n → in_width w (pos n) ≡ false
great U8 n h = grind (arith, nat_tests)
great U16 n h = grind (arith, nat_tests)
great U32 n h = grind (arith, nat_tests)
great U64 n h = grind (arith, nat_tests)
great I8 n h = grind (arith, nat_tests)
great I16 n h = grind (arith, nat_tests)
great I32 n h = grind (arith, nat_tests)
great I64 n h = grind (arith, nat_tests)

-- nor is one that lies deeper than 63 bits reach
pub deep : (w : PType) (n : ℕ) → 2 ^ 63 ≤ n → in_width w (negsuc n) ≡ false
deep U8 n h = refl
deep U16 n h = refl
deep U32 n h = refl
deep U64 n h = refl
deep I8 n h = grind (arith, nat_tests)
deep I16 n h = grind (arith, nat_tests)
deep I32 n h = grind (arith, nat_tests)
deep I64 n h = grind (arith, nat_tests)

pub below-widths : (w : PType) (n : ℕ) → 2 ^ 63 < n → where_in (in_width w) (Some (neg_ℤ (pos n))) ≡ None
below-widths w zero h = absurd (omega arith)
below-widths w (suc n) h = outside (in_width w) (negsuc n) (deep w n (omega arith))

-- a size that passes 64 bits has no number, with a sign or without
pub none-above : (w : PType) (o : Option ℕ) → None ≡ below (2 ^ 64) o → None ≡ where_in (in_width w) (option_map pos o)
none-above w None e = refl
none-above w (Some n) e = sym (outside (in_width w) (pos n) (great w n (past (2 ^ 64) n (sym e))))

pub none-below : (w : PType) (o : Option ℕ) → None ≡ below (2 ^ 64) o → None ≡ where_in (in_width w) (option_map (λ n. neg_ℤ (pos n)) o)
none-below w None e = refl
none-below w (Some n) e = let big = past (2 ^ 64) n (sym e) in sym (below-widths w n (omega arith))

-- a size that does not has the number of its sign
pub some-above : (w : PType) (o : Option ℕ) (n : ℕ) → Some n ≡ below (2 ^ 64) o → where_in (in_width w) (option_map pos o) ≡ where_in (in_width w) (Some (pos n))
some-above w o n e = ap (λ o. where_in (in_width w) (option_map pos o)) (known (2 ^ 64) o n e)

pub some-below : (w : PType) (o : Option ℕ) (n : ℕ) → Some n ≡ below (2 ^ 64) o → where_in (in_width w) (option_map (λ n. neg_ℤ (pos n)) o) ≡ where_in (in_width w) (Some (neg_ℤ (pos n)))
some-below w o n e = ap (λ o. where_in (in_width w) (option_map (λ n. neg_ℤ (pos n)) o)) (known (2 ^ 64) o n e)
