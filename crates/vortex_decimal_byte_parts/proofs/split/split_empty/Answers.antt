use Rattle.std.proofs.Common.{◌≡◌, ◌==◌, ◌∙◌, ap, sym}
use Rattle.vortex_decimal_byte_parts.specs.Split.{bits_kept}
use Rattle.vortex_decimal_byte_parts.proofs.SplitRows.{split-empty-narrow, split-empty-wide}
use Rattle.vortex_decimal_byte_parts.proofs.split.split_empty.Goals as goal
use Rattle.vortex_decimal_byte_parts.proofs.split.split_empty.Goals.{then-is_wide+in_ok-push, else-is_wide}

pub returns : goal.returns
returns c =
    let a = c.args.decimal.now in
    let said : (bits_kept a.values.numbers == 128) ≡ c.is_wide.result = ap (λ b. bits_kept b == 128) (sym c.values-2.ensures.value) ∙ sym c.is_wide.ensures in
    rw (c.equal_part-msp.ensures, c.width_of-width.ensures, c.values.ensures.value, c.nullability.ensures, c.validity.ensures.value, c.len.ensures.rows)
    (elim c.if-is_wide.branch [
      | then-is_wide+in_ok-push w ↦
          rw (w.lower_parts-is, w.in_ok-push.ensures.items, c.new-lower_parts.ensures.items, w.equal_part.ensures, w.len-then-is_wide.ensures.rows)
          (split-empty-wide a (said ∙ w.if-is_wide.true) c.requires.none)
      | else-is_wide w ↦ rw (w.lower_parts-is, c.new-lower_parts.ensures.items) (split-empty-narrow a (said ∙ w.if-is_wide.false) c.requires.none)
    ])
