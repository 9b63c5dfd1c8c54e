use Rattle.std.proofs.Common.{◌≡◌, ◌∙◌, ap, length, subst, sym}
use Rattle.std.specs.Prelude.{IfOk}
use Rattle.vortex_array_kinds.specs.Validities.{valid_bits}
use Rattle.vortex_array_cast.specs.Filled.{filled_items}
use Rattle.vortex_array_cast.proofs.FilledRows.{filled-by-none, filled-none, has-none}
use Rattle.vortex_array_cast.proofs.fill.fill_items.Goals as goal

pub returns-in-AllInvalid : goal.returns-in-AllInvalid
returns-in-AllInvalid g c =
    let items = c.args.items.now in
    subst
    (λ ys. IfOk c.equal_items.result (λ b. b ≡ ys))
    (sym (filled-by-none c.args.fill items)
    ∙ ap (λ v. filled_items c.args.fill items (valid_bits v (length items))) (sym c.in-AllInvalid.is))
    c.equal_items.ensures

pub returns-in_ok-same-in-NonNullable : goal.returns-in_ok-same-in-NonNullable
returns-in_ok-same-in-NonNullable g c =
    c.in_ok-same-in-NonNullable.ensures
    ∙ filled-none c.args.fill c.args.validity.now c.args.items.now (has-none c.args.validity.now c.in-NonNullable.is)
