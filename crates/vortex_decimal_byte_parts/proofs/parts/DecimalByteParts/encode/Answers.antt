use Rattle.std.proofs.Common.{List, subst, sym}
use Rattle.std.specs.Prelude.{◌≡◌, option_to_list}
use Rattle.vortex_array_kinds.specs.Parts.{PlainParts}
use Rattle.vortex_array_kinds.specs.declared.decimals.Decimals.{Decimals}
use Rattle.vortex_array_types.specs.Digits.{Digits}
use Rattle.vortex_array.specs.declared.arrays.Array.{Array}
use Rattle.vortex_decimal_byte_parts.specs.Checked.{first_of_lower}
use Rattle.vortex_decimal_byte_parts.specs.Columns.{Parts}
use Rattle.vortex_decimal_byte_parts.specs.Split.{IsSplit}
use Rattle.vortex_decimal_byte_parts.proofs.MadeParts.{few-lower}
use Rattle.vortex_decimal_byte_parts.proofs.PartColumns.{parts_of}
use Rattle.vortex_decimal_byte_parts.proofs.SplitRows.{only-lower}
use Rattle.vortex_decimal_byte_parts.proofs.parts.DecimalByteParts.encode.Goals as goal

split-kept : (a : PlainParts Decimals) (p : Parts) (m : Array) (ls : List Array) (d : Digits) → p ≡ parts_of m (first_of_lower ls) d → IsSplit a m ls → IsSplit a p.msp (option_to_list p.lower)
split-kept a p m ls d is s =
    subst (λ (q : Parts). IsSplit a q.msp (option_to_list q.lower)) (sym is) (subst (λ xs. IsSplit a m xs) (sym (only-lower ls (few-lower m ls s.parts))) s)

pub returns-clause-parts : goal.returns-clause-parts
returns-clause-parts c =
    let msp = c.into_parts-msp.result.0 in
    let lower = c.into_parts-msp.result.1.items in
    let split : IsSplit c.args.decimal.now msp lower = rw (c.into_parts-msp.ensures.msp, c.into_parts-msp.ensures.lower) c.in_ok-parts.ensures in
    split-kept c.args.decimal.now c.in-Ok.parts msp lower c.decimal_dtype.result c.in-Ok.ensures.ok split
