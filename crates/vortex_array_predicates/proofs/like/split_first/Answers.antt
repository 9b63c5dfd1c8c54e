use Rattle.std.proofs.Common.{◌++◌, ◌∙◌, sym, ap}
use Rattle.std.proofs.lemmas.Str.{chars_past_char}
use Rattle.std.specs.Char.{encode_utf8}
use Rattle.vortex_array_predicates.proofs.like.split_first.Goals as goal

pub returns-clause-first : goal.returns-clause-first
returns-clause-first c =
    chars_past_char _ _ _ c.utf8.text (sym c.chars-rest.ensures.rest ∙ c.in_ok-first.ensures.steps.0 ∙ ap (λ t. encode_utf8 c.in_ok-first.first ++ t) (sym c.as_str.ensures))
