use Rattle.std.proofs.Common.{◌≡◌, ◌∙◌, length, map, subst}
use Rattle.std.proofs.lemmas.Result.{IfOk-weaker}
use Rattle.vortex_buffer.specs.Mask.{mask_bits}
use Rattle.vortex_array_types.specs.Row.{Column}
use Rattle.vortex_array.proofs.TakenAt.{same-indices}
use Rattle.vortex_dict.specs.NamedValues.{AreNamed, MarkNamed}
use Rattle.vortex_dict.proofs.Marks.{marks-named, number-long, number-places}
use Rattle.vortex_dict.proofs.naming.named_by_places.Goals as goal

pub mask_named-requires-clause-below : goal.mask_named-requires-clause-below
mask_named-requires-clause-below g c =
    let count : length c.deref_mut.result.now ≡ c.args.count = c.deref_mut.ensures.len ∙ c.in_ok-marks.ensures.len in
    rw (count, c.as_slice.ensures) (number-places g.P.RowIndex.place c.args.count c.args.nulls.now c.args.places.now c.requires.long c.requires.below.below)

pub returns : goal.returns
returns g c =
    let f = g.P.RowIndex.place in
    let v = c.args.nulls.now in
    let places = c.args.places.now in
    let count : length c.deref_mut.result.now ≡ c.args.count = c.deref_mut.ensures.len ∙ c.in_ok-marks.ensures.len in
    IfOk-weaker c.mask_named.result _ _
    (λ mask h.
    let marked : MarkNamed v (map f places) (mask_bits mask) = rw c.as_slice.ensures at h.1 in
    subst (λ (k : Column). AreNamed k.rows c.args.count (mask_bits mask)) (same-indices f v places)
    (marks-named v (map f places) c.args.count (mask_bits mask) (number-long f v places c.requires.long) (h.0 ∙ count) marked))
    c.mask_named.ensures
