-- A copy that is made of the copies of its parts.
use Rattle.std.proofs.Common.{◌≡◌, ◌∙◌, ap, sym, Ok, Err}
use Rattle.std.specs.Prelude.{Result, IfOk, IsOkAnd}
use Rattle.std.specs.declared.alloc.AllocError.{AllocError}
use Rattle.vortex_array_types.specs.declared.filter.Filter.{Filter, Not}

-- of one part
pub copy_of_one : (r f : Result Filter AllocError) (x h : Filter) → IfOk r (λ g. IsOkAnd f (λ y. g ≡ Not y)) → IfOk f (λ y. y ≡ x) → h ≡ Not x → IfOk r (λ g. g ≡ h)
copy_of_one (Ok g) (Ok y) x h p q e = p ∙ ap Not q ∙ sym e
copy_of_one (Ok g) (Err _) x h p q e = absurd p
copy_of_one (Err _) f x h p q e = tt

-- of two parts
pub copy_of_two : (join : Filter → Filter → Filter) (r f g : Result Filter AllocError) (x y h : Filter) → IfOk r (λ k. IsOkAnd f (λ a. IsOkAnd g (λ b. k ≡ join a b)))
    → IfOk f (λ a. a ≡ x) → IfOk g (λ b. b ≡ y) → h ≡ join x y → IfOk r (λ k. k ≡ h)
copy_of_two join (Ok k) (Ok a) (Ok b) x y h p q s e = p ∙ ap (λ z. join z b) q ∙ ap (join x) s ∙ sym e
copy_of_two join (Ok k) (Ok a) (Err _) x y h p q s e = absurd p
copy_of_two join (Ok k) (Err _) g x y h p q s e = absurd p
copy_of_two join (Err _) f g x y h p q s e = tt
