use Rattle.std.proofs.Common.{◌∙◌, ap, sym}
use Rattle.std.specs.Prelude.{replicate}
use Rattle.vortex_array_kinds.proofs.RowLemmas.{equal-present, not-null}
use Rattle.vortex_array_kinds.proofs.constants.ConstantArray.validity_mask.Goals as goal

pub returns-then-is_null : goal.returns-then-is_null
returns-then-is_null c =
    let null = c.is_null.ensures.0 c.if-is_null.true in
    rw (← c.self.view_is, null) (c.new_false.ensures ∙ sym (equal-present c.self.inside.len _))

pub returns-else-is_null : goal.returns-else-is_null
returns-else-is_null c =
    let scalar = c.self.inside.scalar in
    let len = c.self.inside.len in
    rw (← c.self.view_is) (c.new_true.ensures ∙ ap (replicate len) (sym (not-null scalar.value c.is_null.result c.if-is_null.false c.is_null.ensures.1)) ∙ sym (equal-present len scalar.value))
