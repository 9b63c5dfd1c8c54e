use Rattle.vortex_array.proofs.NamedRows.{below-numbers}
use Rattle.vortex_array.proofs.TakenAt.{numbers-below}
use Rattle.vortex_array.proofs.indices.items_below.Goals as goal

pub returns : goal.returns
returns g c = (
  λ h. below-numbers g.P.RowIndex.place c.args.bound c.args.nulls.now c.args.places.now (rw c.as_slice.ensures at (c.valid_places_below.ensures.0 h)),
  λ h. c.valid_places_below.ensures.1 (rw c.as_slice.ensures (numbers-below g.P.RowIndex.place c.args.bound c.args.nulls.now c.args.places.now c.requires h)),
)
