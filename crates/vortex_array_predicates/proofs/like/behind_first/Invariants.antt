use Rattle.std.proofs.Common.{◌≡◌, ◌≤◌, ℕ, List, Bool, length, chars}
use denote.Text.{Utf8}
use denote.Shadow.{shadow}
use Rattle.vortex_array_types.specs.Matches.{first_then, some_suffix}
use Rattle.vortex_array_predicates.specs.Outcomes.{passes}
use Rattle.vortex_array_predicates.proofs.like.behind_first.Given as goal

-- the characters so far are passed over
abbrev pub invariant-loop-c : goal.invariant-loop-c
invariant-loop-c l = record {
  is_text : shadow (Utf8 l.text);
  over : (behind : List ℕ → Bool) → some_suffix (first_then (passes l.element) behind) (chars l.fn.text) ≡ some_suffix (first_then (passes l.element) behind) (chars l.text);
  shorter : length l.text ≤ length l.fn.text;
}

abbrev pub decreases-loop-c : goal.decreases-loop-c
decreases-loop-c l = length l.text
