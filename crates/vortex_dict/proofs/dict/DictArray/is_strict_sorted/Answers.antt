use Rattle.std.proofs.Common.{refl}
use Rattle.std.proofs.lemmas.Bool.{false≢true}
use Rattle.vortex_array_order.specs.InOrder.{IsStrictlySorted}
use Rattle.vortex_array.specs.ColumnOf.{column_of}
use Rattle.vortex_dict.specs.Decoded.{dict_column}
use Rattle.vortex_dict.specs.InOrder.{BeginWithNulls}
use Rattle.vortex_dict.proofs.Climbs.{one-null, strict-decoded, two-nulls}
use Rattle.vortex_dict.proofs.dict.DictArray.is_strict_sorted.Goals as goal
use Rattle.vortex_dict.proofs.dict.DictArray.is_strict_sorted.Goals.{else-is_strict_sorted-via-then-is_strict_sorted+then-is_strict_sorted-2+else-not-begins_with_nulls, else-is_strict_sorted-via-then-is_strict_sorted+else-is_strict_sorted-2, else-is_strict_sorted-via-else-is_strict_sorted}

pub returns-then-not-begins_with_nulls-clause-exact :
    goal.returns-then-not-begins_with_nulls-clause-exact
returns-then-not-begins_with_nulls-clause-exact c =
    let d = c.args.self.now in
    let codes : IsStrictlySorted (column_of d.codes).rows = rw c.codes.ensures.value at (c.if-is_strict_sorted.ensures.0 refl) in
    let values : IsStrictlySorted (column_of d.values).rows = rw c.values.ensures.value at (c.if-is_strict_sorted-2.ensures.0 refl) in
    let apart : BeginWithNulls (dict_column d).rows → ⊥ = λ b. false≢true (c.if-not-begins_with_nulls.ensures.1 b) in
    (λ t. record { codes = codes; values = values; nulls = one-null (column_of d.codes).rows (column_of d.values).rows c.codes.ensures.fits.below codes values apart }, λ s. refl)

pub returns-then-not-begins_with_nulls-clause-rows :
    goal.returns-then-not-begins_with_nulls-clause-rows
returns-then-not-begins_with_nulls-clause-rows c =
    let d = c.args.self.now in
    let codes : IsStrictlySorted (column_of d.codes).rows = rw c.codes.ensures.value at (c.if-is_strict_sorted.ensures.0 refl) in
    let values : IsStrictlySorted (column_of d.values).rows = rw c.values.ensures.value at (c.if-is_strict_sorted-2.ensures.0 refl) in
    let apart : BeginWithNulls (dict_column d).rows → ⊥ = λ b. false≢true (c.if-not-begins_with_nulls.ensures.1 b) in
    let below = c.codes.ensures.fits.below in
    strict-decoded (column_of d.codes).rows (column_of d.values).rows below codes values (one-null (column_of d.codes).rows (column_of d.values).rows below codes values apart)

pub returns-else-is_strict_sorted-clause-exact : goal.returns-else-is_strict_sorted-clause-exact
returns-else-is_strict_sorted-clause-exact c = (
  λ t. absurd (false≢true t),
  λ s.
      elim c.else-is_strict_sorted.branch [
        | else-is_strict_sorted-via-then-is_strict_sorted+then-is_strict_sorted-2+else-not-begins_with_nulls w ↦ absurd (two-nulls (dict_column c.args.self.now).rows s.nulls (w.if-not-begins_with_nulls.ensures.0 refl))
        | else-is_strict_sorted-via-then-is_strict_sorted+else-is_strict_sorted-2 w ↦ w.if-is_strict_sorted-2.ensures.1 (rw w.values.ensures.value s.values)
        | else-is_strict_sorted-via-else-is_strict_sorted w ↦ w.if-is_strict_sorted.ensures.1 (rw c.codes.ensures.value s.codes)
      ],
)
