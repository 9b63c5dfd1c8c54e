use Rattle.std.proofs.Common.{◌∙◌, ap, length, sym}
use Rattle.std.proofs.lemmas.List.{length-map}
use Rattle.vortex_array_kinds.specs.StringValues.{string_value}
use Rattle.vortex_array_order.proofs.strings.StringsCompared.count.Goals as goal

pub returns : goal.returns
returns c = c.len.ensures ∙ ap length c.lists.ensures.value ∙ sym (length-map c.args.self.now.lists (string_value c.args.self.now.kind))
