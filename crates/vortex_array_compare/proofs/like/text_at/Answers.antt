use Rattle.std.proofs.Common.{get_or, []}
use Rattle.std.proofs.lemmas.Str.{IsUtf8-from_is_utf8}
use Rattle.vortex_array_compare.proofs.like.text_at.Goals as goal

pub from_utf8_unchecked-requires : goal.from_utf8_unchecked-requires
from_utf8_unchecked-requires c = rw c.get.ensures (IsUtf8-from_is_utf8 (get_or c.args.texts.now c.args.i []) (c.requires.texts c.args.i [] c.requires.inside))
