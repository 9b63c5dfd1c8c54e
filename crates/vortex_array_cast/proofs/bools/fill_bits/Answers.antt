use Rattle.std.proofs.Common.{◌≡◌, ◌∙◌, ap, subst, sym, length, map}
use Rattle.std.specs.Prelude.{◌||◌, ◌&&◌, IfOk, not}
use Rattle.std.specs.Simd.Lanes.{zip2}
use Rattle.vortex_array_kinds.specs.Validities.{valid_bits}
use Rattle.vortex_array_cast.specs.Filled.{filled_items}
use Rattle.vortex_array_cast.proofs.FilledRows.{filled-set, filled-unset}
use Rattle.vortex_array_cast.proofs.bools.fill_bits.Goals as goal

pub returns-then-fill : goal.returns-then-fill
returns-then-fill c =
    let bits = c.args.bits.now in
    let present = valid_bits c.args.validity.now (length bits) in
    let valid = c.in_ok-valid.ensures ∙ ap (valid_bits c.args.validity.now) c.len.ensures in
    let unset = c.in_ok-filled.ensures ∙ ap (map not) valid in
    subst (λ bs. IfOk c.or.result (λ b. b ≡ bs))
    (ap (zip2 ◌||◌ bits) unset ∙ filled-set bits present ∙ ap (λ fill. filled_items fill bits present) (sym c.if-fill.true))
    c.or.ensures

pub returns : goal.returns
returns c =
    let bits = c.args.bits.now in
    let present = valid_bits c.args.validity.now (length bits) in
    let valid = c.in_ok-valid.ensures ∙ ap (valid_bits c.args.validity.now) c.len.ensures in
    subst (λ bs. IfOk c.and.result (λ b. b ≡ bs))
    (ap (zip2 ◌&&◌ bits) valid ∙ filled-unset bits present ∙ ap (λ fill. filled_items fill bits present) (sym c.if-fill.false))
    c.and.ensures
