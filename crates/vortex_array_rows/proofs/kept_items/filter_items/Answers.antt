use Rattle.std.proofs.Common.{◌≡◌, ◌∙◌, ap, sym, length, true}
use Rattle.std.proofs.lemmas.List.{length-replicate}
use Rattle.vortex_buffer.specs.Mask.{mask_bits}
use Rattle.vortex_array_rows.specs.Kept.{kept_by}
use Rattle.vortex_array_rows.proofs.Kept.{kept_by-all, kept_by-none}
use Rattle.vortex_array_rows.proofs.kept_items.filter_items.Goals as goal

pub returns-in_ok-all-in-AllTrue : goal.returns-in_ok-all-in-AllTrue
returns-in_ok-all-in-AllTrue g c =
    let n = c.in-AllTrue.field-0 in
    let items = c.args.items.now in
    let long : n ≡ length items = sym (length-replicate n true) ∙ ap (λ m. length (mask_bits m)) (sym c.in-AllTrue.is) ∙ c.requires.same_length in
    record { ok = c.in_ok-all-in-AllTrue.ensures ∙ sym (ap (λ m. kept_by (mask_bits m) items) c.in-AllTrue.is ∙ kept_by-all n items long) }

pub returns-in-AllFalse : goal.returns-in-AllFalse
returns-in-AllFalse g c =
    let items = c.args.items.now in
    record { ok = c.from_vec.ensures ∙ c.new.ensures.items ∙ sym (ap (λ m. kept_by (mask_bits m) items) c.in-AllFalse.is ∙ kept_by-none c.in-AllFalse.field-0 items) }
