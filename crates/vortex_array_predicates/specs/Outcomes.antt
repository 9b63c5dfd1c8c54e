-- What the parts of matching tell.
use Rattle.std.specs.Prelude.{◌≡◌, ℕ, suc, List, Bool, true, false, ◌==◌, ⊤, length, chars}
use Rattle.vortex_array_types.specs.Matches.{first_then, matches_chars, some_suffix}
use Rattle.vortex_array_predicates.specs.declared.like.Element.{Element}
use Rattle.vortex_array_predicates.specs.declared.like.Element.TheVariants.{AnyRun, AnyOne, Exactly}
use Rattle.vortex_array_predicates.specs.declared.like.Outcome.{Outcome}
use Rattle.vortex_array_predicates.specs.declared.like.Outcome.TheVariants.{Whole, Failed, Exhausted, Run}

-- the element takes this one character
abbrev pub passes : Element → ℕ → Bool
passes AnyRun c = false
passes AnyOne c = true
passes (Exactly wanted) c = c == wanted

-- the element, and then what is behind it
abbrev pub asks : Element → (List ℕ → Bool) → List ℕ → Bool
asks AnyRun behind = some_suffix behind
asks AnyOne behind = first_then (passes AnyOne) behind
asks (Exactly wanted) behind = first_then (passes (Exactly wanted)) behind

-- whether the text matches, as far as the outcome tells
abbrev pub settled : Outcome → Bool
settled Whole = true
settled Failed = false
settled Exhausted = false
settled (Run pattern text) = some_suffix (matches_chars (chars pattern.now)) (chars text.now)

-- no later place of the text says otherwise, unless it failed at this one
abbrev pub Settles : (List ℕ → Bool) → List ℕ → Outcome → Type 0
Settles matching text Whole = some_suffix matching text ≡ settled Whole
Settles matching text Failed = ⊤
Settles matching text Exhausted = some_suffix matching text ≡ settled Exhausted
Settles matching text (Run pattern rest) = some_suffix matching text ≡ settled (Run pattern rest)

-- how much of the pattern is left: one more than the bytes behind the `%`
abbrev pub left_over : Outcome → ℕ
left_over Whole = 0
left_over Failed = 0
left_over Exhausted = 0
left_over (Run pattern text) = suc (length pattern.now)
