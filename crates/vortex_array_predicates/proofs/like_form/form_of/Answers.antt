use Rattle.std.proofs.Common.{◌∙◌, sym}
use Rattle.vortex_array_predicates.proofs.Forms.{behind-run}
use Rattle.vortex_array_predicates.proofs.like_form.form_of.Goals as goal

pub range_from-requires : goal.range_from-requires
range_from-requires c = λ _. behind-run c.args.pattern.now c.utf8.pattern (sym c.has_run.ensures ∙ c.if-has_run.true)
