use Rattle.std.proofs.Common.{ℕ, subst}
use Rattle.vortex_wire.proofs.Leading.{leads_past}
use Rattle.vortex_wire.proofs.reading.told_at.Goals as goal
use Rattle.vortex_wire.specs.Places.{Follows}

pub returns-then-field-number : goal.returns-then-field-number
returns-then-field-number c =
    let found = c.requires.found in
    leads_past c.args.runs c.args.number c.args.bytes.now c.args.place c.args.field c.requires.order found.0 found.1 found.2 c.if-field-number.true

pub returns : goal.returns
returns c = subst (λ (n : ℕ). Follows c.args.runs n c.args.bytes.now c.args.place c.told_by.result) c.if-field-number.false c.told_by.ensures
