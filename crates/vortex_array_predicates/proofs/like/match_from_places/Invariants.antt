use Rattle.std.proofs.Common.{◌≡◌, length, chars}
use denote.Text.{Utf8}
use denote.Shadow.{shadow}
use Rattle.vortex_array_types.specs.Matches.{first_then, matches_chars, some_suffix}
use Rattle.vortex_array_predicates.specs.Outcomes.{passes}
use Rattle.vortex_array_predicates.proofs.like.match_from_places.Given as goal

-- the places so far do not match
abbrev pub invariant-loop-rest : goal.invariant-loop-rest
invariant-loop-rest l = record {
  is_text : shadow (Utf8 l.text);
  left : some_suffix (first_then (passes l.element) (matches_chars (chars l.behind))) (chars l.fn.text) ≡ some_suffix (first_then (passes l.element) (matches_chars (chars l.behind))) (chars l.text);
}

abbrev pub decreases-loop-rest : goal.decreases-loop-rest
decreases-loop-rest l = length l.text
