use Rattle.std.proofs.Common.{◌≡◌, ◌∙◌, [], ap, sym, subst, length, true}
use Rattle.std.specs.Prelude.{IfOk}
use Rattle.std.proofs.lemmas.List.{length-replicate}
use Rattle.vortex_buffer.specs.Mask.{mask_bits}
use Rattle.vortex_array_rows.specs.Kept.{kept_by}
use Rattle.vortex_array_rows.proofs.Kept.{kept_by-all, kept_by-none}
use Rattle.vortex_array_rows.proofs.kept_bits.filter_bits.Goals as goal

pub returns-in-AllTrue : goal.returns-in-AllTrue
returns-in-AllTrue c =
    let n = c.in-AllTrue.field-0 in
    let bits = c.args.bits.now in
    let long : n ≡ length bits = sym (length-replicate n true) ∙ ap (λ m. length (mask_bits m)) (sym c.in-AllTrue.is) ∙ c.requires.same_length in
    let all : kept_by (mask_bits c.args.mask.now) bits ≡ bits = ap (λ m. kept_by (mask_bits m) bits) c.in-AllTrue.is ∙ kept_by-all n bits long in
    record { ok = subst (λ kept. IfOk c.try_clone.result (λ r. r ≡ kept)) (sym all) c.try_clone.ensures }

pub returns-in-AllFalse : goal.returns-in-AllFalse
returns-in-AllFalse c =
    let bits = c.args.bits.now in
    let none : kept_by (mask_bits c.args.mask.now) bits ≡ [] = ap (λ m. kept_by (mask_bits m) bits) c.in-AllFalse.is ∙ kept_by-none c.in-AllFalse.field-0 bits in
    record { ok = subst (λ kept. IfOk c.new_unset.result (λ r. r ≡ kept)) (sym none) c.new_unset.ensures }
