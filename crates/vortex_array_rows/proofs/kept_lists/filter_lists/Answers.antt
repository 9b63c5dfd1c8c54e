use Rattle.std.proofs.Common.{◌≡◌, ◌∙◌, ap, sym, subst, length, true}
use Rattle.std.specs.Prelude.{IfOk}
use Rattle.std.proofs.lemmas.List.{length-replicate}
use Rattle.vortex_buffer.specs.Mask.{mask_bits}
use Rattle.vortex_array_rows.specs.Kept.{kept_by}
use Rattle.vortex_array_rows.proofs.Kept.{kept_by-all, kept_by-none}
use Rattle.vortex_array_rows.proofs.kept_lists.filter_lists.Goals as goal

pub returns-in-AllTrue : goal.returns-in-AllTrue
returns-in-AllTrue c =
    let n = c.in-AllTrue.field-0 in
    let lists = c.args.lists.now in
    let long : n ≡ length lists = sym (length-replicate n true) ∙ ap (λ m. length (mask_bits m)) (sym c.in-AllTrue.is) ∙ c.requires.same_length in
    let all : kept_by (mask_bits c.args.mask.now) lists ≡ lists = ap (λ m. kept_by (mask_bits m) lists) c.in-AllTrue.is ∙ kept_by-all n lists long in
    record { ok = subst (λ kept. IfOk c.try_clone.result (λ r. r ≡ kept)) (sym all) c.try_clone.ensures.ok }

pub returns-in-AllFalse : goal.returns-in-AllFalse
returns-in-AllFalse c =
    let lists = c.args.lists.now in
    record { ok = c.new.ensures ∙ sym (ap (λ m. kept_by (mask_bits m) lists) c.in-AllFalse.is ∙ kept_by-none c.in-AllFalse.field-0 lists) }
