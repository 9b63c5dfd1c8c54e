use Rattle.std.proofs.Common.{◌≡◌, Bool, List, subst}
use Rattle.std.specs.Prelude.{◌↔◌, All, IsTrue}
use Rattle.vortex_dict.proofs.Named.{named-numbers}
use Rattle.vortex_dict.proofs.valid.all_places_name.Goals as goal

pub returns : goal.returns
returns g c =
    subst (λ (lanes : List Bool). IsTrue c.lanes_are.result ↔ All (λ (lane : Bool). lane ≡ c.args.wanted) lanes)
    (named-numbers g.P.RowIndex.place c.args.present.now c.args.nulls.now c.args.places.now)
    (rw c.as_slice.ensures at c.lanes_are.ensures)
