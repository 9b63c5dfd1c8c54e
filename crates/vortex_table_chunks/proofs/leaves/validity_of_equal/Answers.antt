use Rattle.std.proofs.Common.{◌≡◌, ◌∙◌, Some, None, ap, sym, refl, true, false}
use Rattle.std.specs.Prelude.{IsTrue, is_some}
use Rattle.vortex_array_types.specs.Row.{fits_type, nullability}
use Rattle.vortex_array_types.specs.Seen.{value_seen}
use Rattle.vortex_array_kinds.specs.declared.validity.Validity.TheVariants.{AllInvalid}
use Rattle.vortex_dict.proofs.Held.{null-kind}
use Rattle.vortex_table_chunks.proofs.Present.{equal-shown}
use Rattle.vortex_table_chunks.proofs.leaves.validity_of_equal.Goals as goal

pub returns-in-Some-clause-kind : goal.returns-in-Some-clause-kind
returns-in-Some-clause-kind c = c.of_values.ensures.kind ∙ c.nullability.ensures ∙ ap nullability c.dtype.ensures

pub returns-in-Some-clause-present : goal.returns-in-Some-clause-present
returns-in-Some-clause-present c =
    let k = c.args.rows.now in
    equal-shown k.len k.scalar.value c.of_values.result true c.of_values.ensures.present (ap is_some (c.in-Some.ensures.value ∙ ap (λ s. s.value) c.scalar.ensures))

pub returns-in-None-clause-kind : goal.returns-in-None-clause-kind
returns-in-None-clause-kind c =
    let k = c.args.rows.now in
    let is : None ≡ k.scalar.value = c.in-None.ensures.value ∙ ap (λ s. s.value) c.scalar.ensures in
    let fits : IsTrue (fits_type k.scalar.dtype k.scalar.value) = rw c.scalar.ensures at c.in-None.ensures.fits in
    null-kind k is fits

pub returns-in-None-clause-present : goal.returns-in-None-clause-present
returns-in-None-clause-present c =
    let k = c.args.rows.now in
    equal-shown k.len k.scalar.value AllInvalid false (λ m. refl) (ap is_some (c.in-None.ensures.value ∙ ap (λ s. s.value) c.scalar.ensures))
