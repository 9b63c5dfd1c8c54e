use Rattle.std.proofs.Common.{◌<◌, ap, arith, length, refl}
use Rattle.std.proofs.lemmas.Bool.{false≢true}
use Rattle.vortex_array.specs.ColumnOf.{column_of}
use Rattle.vortex_dict.proofs.Marks.{constant-named, named-constant, number-places}
use Rattle.vortex_dict.proofs.constant.places_name_one.Goals as goal

pub same_named-requires-clause-below : goal.same_named-requires-clause-below
same_named-requires-clause-below g c =
    rw c.as_slice-items.ensures (number-places g.P.RowIndex.place (length (column_of c.args.values.now).rows) c.args.nulls.now c.args.places.now c.requires.long c.requires.below.below)

pub returns-then-not-same_named : goal.returns-then-not-same_named
returns-then-not-same_named g c =
    let f = g.P.RowIndex.place in
    let vs = (column_of c.args.values.now).rows in
    let inside : c.loop-row.row < length c.args.places.now = omega (arith, ap length c.as_slice-items.ensures) in (
      λ t. absurd (false≢true t),
      λ h. c.if-not-same_named.ensures.1 (rw c.as_slice-items.ensures (named-constant f vs c.args.nulls.now c.args.places.now c.requires.long h c.loop-row.row inside)),
    )

pub returns : goal.returns
returns g c =
    let f = g.P.RowIndex.place in
    let vs = (column_of c.args.values.now).rows in
    let same = ap length c.as_slice-items.ensures in
    let some : 0 < length c.args.places.now = omega (arith, same, c.if-items-eq0.false) in (
      λ t. constant-named f vs c.args.nulls.now c.args.places.now c.requires.long some (λ k l. rw c.as_slice-items.ensures at (c.loop-row.invariant k (omega (arith, l, same)))),
      λ h. refl,
    )
