-- Patterns that ask for a text alone, or for how one begins or ends.
use Rattle.std.specs.Prelude.{ℕ, ◌==◌, ◌-◌, List, [], ◌∷◌, Bool, true, ◌&&◌, ◌||◌, not, chars, drop, length, slice_index, take}
use Rattle.vortex_array_predicates.specs.declared.like_form.PatternForm.{PatternForm}
use Rattle.vortex_array_predicates.specs.declared.like_form.PatternForm.TheVariants.{Plain, PlainEnd, PlainFront, Other}

-- each of these characters stands for itself
abbrev pub plain : List ℕ → Bool
plain [] = true
plain (c ∷ pattern) = not ((c == 37) || ((c == 95) || (c == 92))) && plain pattern

-- a `%`, and behind it each character stands for itself
abbrev pub plain_end : List ℕ → Bool
plain_end pattern = (slice_index pattern 0 == 37) && plain (chars (drop 1 pattern))

-- a `%` comes last, and before it each character stands for itself
abbrev pub plain_front : List ℕ → Bool
plain_front pattern = (slice_index pattern (length pattern - 1) == 37) && plain (chars (take (length pattern - 1) pattern))

-- what a form says of a pattern
abbrev pub form_tells : PatternForm → List ℕ → Bool
form_tells Plain pattern = plain (chars pattern)
form_tells PlainEnd pattern = plain_end pattern
form_tells PlainFront pattern = plain_front pattern
form_tells Other pattern = true
