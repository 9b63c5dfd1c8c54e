use Rattle.std.proofs.Common.{◌≡◌, length, chars}
use denote.Text.{Utf8}
use denote.Shadow.{shadow}
use Rattle.vortex_array_predicates.specs.Forms.{plain}
use Rattle.vortex_array_predicates.proofs.like_form.is_plain.Given as goal

-- the characters so far stand for themselves
abbrev pub invariant-loop-c : goal.invariant-loop-c
invariant-loop-c l = record {
  is_text : shadow (Utf8 l.text);
  left : plain (chars l.pattern) ≡ plain (chars l.text);
}

abbrev pub decreases-loop-c : goal.decreases-loop-c
decreases-loop-c l = length l.text
