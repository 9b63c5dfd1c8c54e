-- What is given at a call, by whether the call is listed.
use Rattle.std.proofs.Common.{◌≡◌, Option, None, Some, refl}
use Rattle.std.specs.Option.{MatchOption}
use Rattle.vortex_io.specs.declared.request.Completion.{Completion}
use Rattle.vortex_io.specs.Lying.{IsCopied, SameCompletion}

-- a copy is given where the call is listed
pub given_listed : {S C M : Type 0} (means : C → M) (inner : S) (listed : Option (Completion C)) (answer : Completion C) (Other : Type 0) → IsCopied means listed (Some answer) → MatchOption listed Other (λ lie. (inner ≡ inner) × SameCompletion means lie answer)
given_listed means inner None answer Other copied = absurd copied
given_listed means inner (Some lie) answer Other copied = (refl, copied)

-- where it is not, what the source inside did is all
pub given_inside : {C M : Type 0} (means : C → M) (listed : Option (Completion C)) (Other : Type 0) (Listed : Completion C → Type 0) → IsCopied means listed None → Other → MatchOption listed Other Listed
given_inside means None Other Listed copied other = other
given_inside means (Some lie) Other Listed copied other = absurd copied
