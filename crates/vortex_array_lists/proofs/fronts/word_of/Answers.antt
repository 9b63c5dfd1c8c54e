use Rattle.std.proofs.Common.{◌∙◌}
use Rattle.vortex_array_lists.proofs.FrontOrder.{eight-bytes}
use Rattle.vortex_array_lists.proofs.fronts.word_of.Goals as goal

pub returns : goal.returns
returns c = c.from_be_bytes.ensures ∙ eight-bytes c.args.eight.now
