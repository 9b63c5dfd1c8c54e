use Rattle.std.proofs.Common.{◌≡◌, ◌≤◌, length, chars, true}
use denote.Text.{Utf8}
use denote.Shadow.{shadow}
use Rattle.vortex_array_types.specs.Matches.{matches_chars, some_suffix}
use Rattle.vortex_array_predicates.proofs.like.match_front.Given as goal

-- the elements so far are matched, and no later place of the text has more to offer
abbrev pub invariant-loop-element : goal.invariant-loop-element
invariant-loop-element l = record {
  pattern_is_text : shadow (Utf8 l.pattern);
  text_is_text : shadow (Utf8 l.text);
  here : matches_chars (chars l.fn.pattern) (chars l.fn.text) ≡ matches_chars (chars l.pattern) (chars l.text);
  later : some_suffix (matches_chars (chars l.fn.pattern)) (chars l.fn.text) ≡ true → some_suffix (matches_chars (chars l.pattern)) (chars l.text) ≡ true;
  shorter : length l.pattern ≤ length l.fn.pattern;
}

abbrev pub decreases-loop-element : goal.decreases-loop-element
decreases-loop-element l = length l.pattern
