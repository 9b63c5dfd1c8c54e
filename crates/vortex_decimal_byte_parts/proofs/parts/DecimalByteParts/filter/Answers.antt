use Rattle.std.proofs.Common.{◌≡◌, ◌∙◌, length, sym}
use Rattle.vortex_buffer.specs.Mask.{mask_bits}
use Rattle.vortex_array_rows.proofs.Kept.{length-kept_by}
use Rattle.vortex_array_select.specs.Selected.{filtered}
use Rattle.vortex_array.specs.ColumnOf.{column_of}
use Rattle.vortex_decimal_byte_parts.proofs.MadeParts.{kept-two, msp-long, one-done, other-long, two-done}
use Rattle.vortex_decimal_byte_parts.proofs.PartColumns.{filtered-one, filtered-two}
use Rattle.vortex_decimal_byte_parts.proofs.parts.DecimalByteParts.filter.Goals as goal

pub filter-requires : goal.filter-requires
filter-requires c = c.requires ∙ msp-long c.args.self.now c.msp.result.now c.msp.ensures.parts c.msp.ensures.part

pub filter-requires-in-Some : goal.filter-requires-in-Some
filter-requires-in-Some c = c.requires ∙ other-long c.args.self.now c.in-Some.lower.now c.msp.ensures.parts c.in-Some.ensures.part

pub new-requires-in-Some : goal.new-requires-in-Some
new-requires-in-Some c =
    let bits = mask_bits c.args.mask.now in
    let msp = c.msp.result.now in
    let lower = c.in-Some.lower.now in
    let long : length bits ≡ length (column_of msp).rows = c.requires ∙ msp-long c.args.self.now msp c.msp.ensures.parts c.msp.ensures.part in
    let beside : length bits ≡ length (column_of lower).rows = c.requires ∙ other-long c.args.self.now lower c.msp.ensures.parts c.in-Some.ensures.part in
    kept-two (filtered bits) c.args.self.now msp c.in_ok-high.high lower c.in_ok-low-in-Some.low c.decimal_dtype-digits.result (λ a k. k) (λ a k. k) c.msp.ensures.parts c.msp.ensures.part c.in-Some.ensures.part c.in_ok-high.ensures.column c.in_ok-low-in-Some.ensures.column
    (length-kept_by bits (column_of msp).rows long ∙ sym (length-kept_by bits (column_of lower).rows beside))

pub returns-in-None : goal.returns-in-None
returns-in-None c =
    let bits = mask_bits c.args.mask.now in
    one-done (filtered bits) c.args.self.now c.new.result c.msp.result.now c.in_ok-high.high c.decimal_dtype-digits.result (filtered-one bits) c.decimal_dtype-digits.ensures c.msp.ensures.part c.in-None.ensures.part c.new.ensures c.in_ok-high.ensures.column

pub returns-in_ok-low-in-Some : goal.returns-in_ok-low-in-Some
returns-in_ok-low-in-Some c =
    let bits = mask_bits c.args.mask.now in
    two-done (filtered bits) c.args.self.now c.new-in-Some.result c.msp.result.now c.in_ok-high.high c.in-Some.lower.now c.in_ok-low-in-Some.low c.decimal_dtype-digits.result (filtered-two bits) c.decimal_dtype-digits.ensures c.msp.ensures.part c.in-Some.ensures.part c.new-in-Some.ensures c.in_ok-high.ensures.column c.in_ok-low-in-Some.ensures.column
