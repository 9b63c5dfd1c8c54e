use Rattle.std.proofs.Common.{◌≡◌, ◌∙◌, None, ap, arith, get_or, subst, sym}
use Rattle.std.specs.Prelude.{option_map}
use Rattle.vortex_array_types.specs.declared.scalar.Value.TheVariants.{Decimal}
use Rattle.vortex_decimal_byte_parts.specs.Columns.{Parts, parts_column}
use Rattle.vortex_decimal_byte_parts.proofs.PartColumns.{length-parts, lower-long, lower-typed, parts_of}
use Rattle.vortex_decimal_byte_parts.proofs.TakenParts.{row-of-one, row-of-two, typed-row}
use Rattle.vortex_decimal_byte_parts.proofs.parts.DecimalByteParts.scalar_at.Goals as goal
use Rattle.vortex_decimal_byte_parts.proofs.parts.DecimalByteParts.scalar_at.Goals.{in-None, in-Some}

pub wide_at-number-requires-clause-lower : goal.wide_at-number-requires-clause-lower
wide_at-number-requires-clause-lower c =
    lower-typed (parts_of c.self.inside.msp c.self.inside.lower c.self.inside.decimal_dtype) c.in-Some.lower c.self.invariant (sym c.in-Some.is)

pub wide_at-number-requires-clause-within : goal.wide_at-number-requires-clause-within
wide_at-number-requires-clause-within c =
    omega (arith, (rw (← c.self.view_is) at c.requires), length-parts (parts_of c.self.inside.msp c.self.inside.lower c.self.inside.decimal_dtype) c.self.invariant)

pub wide_at-number-requires-clause-beside : goal.wide_at-number-requires-clause-beside
wide_at-number-requires-clause-beside c =
    let parts = parts_of c.self.inside.msp c.self.inside.lower c.self.inside.decimal_dtype in
    omega (arith, (rw (← c.self.view_is) at c.requires), length-parts parts c.self.invariant, lower-long parts c.in-Some.lower c.self.invariant (sym c.in-Some.is))

pub returns : goal.returns
returns c =
    let parts : Parts = parts_of c.self.inside.msp c.self.inside.lower c.self.inside.decimal_dtype in
    let i = c.args.i in
    let row : option_map (λ n. Decimal n) c.match-self.number ≡ get_or (parts_column parts).rows i None =
    elim c.match-self.branch [
      | in-None w ↦ ap (option_map (λ n. Decimal n)) w.number-is ∙ row-of-one parts i (option_map (λ n. Decimal n) w.narrow_at-number.result) w.in-None.is w.narrow_at-number.ensures.row
      | in-Some w ↦ ap (option_map (λ n. Decimal n)) w.number-is ∙ row-of-two parts w.in-Some.lower i (option_map (λ n. Decimal n) w.wide_at-number.result) w.in-Some.is w.wide_at-number.ensures.row
    ] in
    typed-row c.in-Ok.scalar c.dtype.result (parts_column c.args.self.now).dtype c.decimal_value.result (get_or (parts_column c.args.self.now).rows i None) c.in-Ok.ensures.ok c.dtype.ensures
    (c.decimal_value.ensures ∙ subst (λ (p : Parts). option_map (λ n. Decimal n) c.match-self.number ≡ get_or (parts_column p).rows i None) c.self.view_is row)
