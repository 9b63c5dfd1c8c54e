use Rattle.std.proofs.Common.{subst}
use Rattle.vortex_array_types.specs.Row.{is_nullable}
use Rattle.vortex_array_select.specs.Selected.{NamesRows, taken}
use Rattle.vortex_array.specs.ColumnOf.{column_of}
use Rattle.vortex_decimal_byte_parts.proofs.MadeParts.{kept-one, msp-long, one-done, other-long, taken-msp, two-done}
use Rattle.vortex_decimal_byte_parts.proofs.TakenParts.{taken-one, taken-two}
use Rattle.vortex_decimal_byte_parts.proofs.parts.DecimalByteParts.take.Goals as goal

pub new-requires : goal.new-requires
new-requires c =
    let indices = column_of c.args.indices.now in
    kept-one (taken indices) c.args.self.now c.msp-msp.result.now c.in_ok-only-in-None.only c.decimal_dtype-digits.result (λ a k. taken-msp (is_nullable indices.dtype) a.dtype k) c.msp-msp.ensures.parts c.msp-msp.ensures.part c.in_ok-only-in-None.ensures.column

pub take-requires-in-Some : goal.take-requires-in-Some
take-requires-in-Some c = subst (λ n. NamesRows (column_of c.args.indices.now) n) (msp-long c.args.self.now c.msp-msp.result.now c.msp-msp.ensures.parts c.msp-msp.ensures.part) c.requires

pub take-requires-in-Some-2 : goal.take-requires-in-Some-2
take-requires-in-Some-2 c = subst (λ n. NamesRows (column_of c.args.indices.now) n) (other-long c.args.self.now c.in-Some.lower.now c.msp-msp.ensures.parts c.in-Some.ensures.part) c.requires

pub returns-in_ok-only-in-None-clause-ok : goal.returns-in_ok-only-in-None-clause-ok
returns-in_ok-only-in-None-clause-ok c =
    let indices = column_of c.args.indices.now in
    one-done (taken indices) c.args.self.now c.new.result c.msp-msp.result.now c.in_ok-only-in-None.only c.decimal_dtype-digits.result (taken-one indices) c.decimal_dtype-digits.ensures c.msp-msp.ensures.part c.in-None.ensures.part c.new.ensures c.in_ok-only-in-None.ensures.column

pub returns-in_ok-low-in-Some-clause-ok : goal.returns-in_ok-low-in-Some-clause-ok
returns-in_ok-low-in-Some-clause-ok c =
    let indices = column_of c.args.indices.now in
    two-done (taken indices) c.args.self.now c.new-in-Some.result c.msp-msp.result.now c.in_ok-high-in-Some.high c.in-Some.lower.now c.in_ok-low-in-Some.low c.decimal_dtype-digits.result (taken-two indices) c.decimal_dtype-digits.ensures c.msp-msp.ensures.part c.in-Some.ensures.part c.new-in-Some.ensures c.in_ok-high-in-Some.ensures.column c.in_ok-low-in-Some.ensures.column
