use Rattle.std.proofs.Common.{◌∙◌, length, sym}
use Rattle.std.proofs.lemmas.Bool.Decides.{Decides-eqb}
use Rattle.vortex_array.specs.ColumnOf.{column_of}
use Rattle.vortex_decimal_byte_parts.specs.Held.{part_numbers}
use Rattle.vortex_decimal_byte_parts.proofs.TwoParts.{TwoHeld, constant-both, constant-lower, constant-msp, constant-nulls, constant-some, two-held}
use Rattle.vortex_decimal_byte_parts.proofs.parts.wide_is_constant.Goals as goal
use Rattle.vortex_decimal_byte_parts.proofs.parts.wide_is_constant.Goals.{then-is_empty-via-then-is_empty, then-is_empty-via-else-is_empty+then-not-is_constant}

pub returns-then-is_empty : goal.returns-then-is_empty
returns-then-is_empty c =
    let m = c.args.msp.now in
    let l = c.args.lower.now in
    let rows = (column_of m).rows in
    let others = (column_of l).rows in
    let h : TwoHeld rows others (part_numbers m) (part_numbers l) =
    two-held (column_of l).dtype rows others (part_numbers m) (part_numbers l) c.requires.lower c.requires.same_length c.rows_hold.ensures.rows c.rows_hold-2.ensures.full c.numbers_fit.ensures in (
      λ f. absurd (cc f),
      λ k. elim c.then-is_empty.branch [
        | then-is_empty-via-then-is_empty w ↦ absurd (constant-some rows ((Decides-eqb (length rows) 0).0 (sym c.is_empty.ensures ∙ w.if-is_empty.true)) (constant-msp rows others (part_numbers m) (part_numbers l) h k))
        | then-is_empty-via-else-is_empty+then-not-is_constant w ↦ absurd (cc (w.is_constant.ensures.1 (constant-msp rows others (part_numbers m) (part_numbers l) h k), w.if-not-is_constant.true))
      ],
    )

pub returns-then-not-is_valid : goal.returns-then-not-is_valid
returns-then-not-is_valid c =
    let m = c.args.msp.now in
    let l = c.args.lower.now in
    let rows = (column_of m).rows in
    let others = (column_of l).rows in
    let h : TwoHeld rows others (part_numbers m) (part_numbers l) =
    two-held (column_of l).dtype rows others (part_numbers m) (part_numbers l) c.requires.lower c.requires.same_length c.rows_hold.ensures.rows c.rows_hold-2.ensures.full c.numbers_fit.ensures in (
      λ t. constant-nulls rows others (part_numbers m) (part_numbers l) h (sym c.is_valid.ensures ∙ c.if-not-is_valid.true) (c.is_constant.ensures.0 c.if-not-is_constant.false),
      λ k. rw c.if-not-is_valid.true,
    )

pub returns-else-not-is_valid : goal.returns-else-not-is_valid
returns-else-not-is_valid c =
    let m = c.args.msp.now in
    let l = c.args.lower.now in
    let rows = (column_of m).rows in
    let others = (column_of l).rows in
    let h : TwoHeld rows others (part_numbers m) (part_numbers l) =
    two-held (column_of l).dtype rows others (part_numbers m) (part_numbers l) c.requires.lower c.requires.same_length c.rows_hold.ensures.rows c.rows_hold-2.ensures.full c.numbers_fit.ensures in (
      λ t. constant-both rows others (part_numbers m) (part_numbers l) h (c.is_constant.ensures.0 c.if-not-is_constant.false) (c.is_constant-else-not-is_valid.ensures.0 t),
      λ k. c.is_constant-else-not-is_valid.ensures.1 (constant-lower rows others (part_numbers m) (part_numbers l) h (sym c.is_valid.ensures ∙ c.if-not-is_valid.false) k),
    )
