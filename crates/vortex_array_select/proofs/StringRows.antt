-- Parts of texts and of bytes: each part of texts is of texts.
use Rattle.std.proofs.Common.{zero, suc, Bool, true, false, ◌-◌, ℕ, List, [], ◌∷◌, drop, arith}
use Rattle.std.specs.Prelude.{All, slice_range}
use Rattle.std.proofs.lemmas.Str.{IsUtf8-nil}
use Rattle.std.proofs.lemmas.List.Elements.{All-drop, All-take}
use Rattle.vortex_array_rows.specs.Kept.{kept_by}
use Rattle.vortex_array_kinds.specs.StringValues.{IsString}
use Rattle.vortex_array_kinds.specs.declared.strings.StringKind.{StringKind}
use Rattle.vortex_array_kinds.specs.declared.strings.StringKind.TheVariants.{Utf8, Binary}

-- what holds of all items holds of those in a line
pub all-sliced : {X : Type 0} (P : X → Type 0) (xs : List X) (i j : ℕ) → All P xs → All P (slice_range xs i j)
all-sliced P xs i j h = All-take P (j - i) (drop i xs) (All-drop P i xs h)

-- and of those that are kept
pub all-kept : {X : Type 0} (P : X → Type 0) (set : List Bool) (xs : List X) → All P xs → All P (kept_by set xs)
all-kept P [] xs h k d l = absurd (omega (arith, l))
all-kept P (b ∷ set) [] h k d l = h k d l
all-kept P (true ∷ set) (x ∷ xs) h zero d l = h 0 d (omega arith)
all-kept P (true ∷ set) (x ∷ xs) h (suc k) d l = all-kept P set xs (λ i e m. h (suc i) e (omega (arith, m))) k d (omega (arith, l))
all-kept P (false ∷ set) (x ∷ xs) h k d l = all-kept P set xs (λ i e m. h (suc i) e (omega (arith, m))) k d l

-- the empty list is a text, and bytes
pub empty-string : (kind : StringKind) → IsString kind []
empty-string Utf8 = IsUtf8-nil
empty-string Binary = tt
