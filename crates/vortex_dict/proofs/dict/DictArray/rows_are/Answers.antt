use Rattle.std.proofs.Common.{◌≡◌, ◌∙◌, Bool, List, subst, sym}
use Rattle.std.specs.Prelude.{◌↔◌, All, IsTrue}
use Rattle.vortex_array.specs.ColumnOf.{column_of}
use Rattle.vortex_dict.proofs.Named.{constant-shows, names-rows}
use Rattle.vortex_dict.proofs.dict.DictArray.rows_are.Goals as goal

pub returns-in-Constant : goal.returns-in-Constant
returns-in-Constant c =
    let d = c.args.self.now in
    let shows = constant-shows d.values c.in-Constant.value c.equal_presence.result (sym c.values.ensures.value ∙ c.in-Constant.is) (rw c.scalar.ensures at c.equal_presence.ensures) in
    subst (λ (lanes : List Bool). IsTrue c.all_name.result ↔ All (λ (lane : Bool). lane ≡ c.args.wanted) lanes)
    (names-rows (column_of d.values).rows c.equal_presence.result shows (column_of d.codes).rows c.codes.ensures.fits.below)
    (rw c.codes.ensures.value at c.all_name.ensures)

pub returns-in_default : goal.returns-in_default
returns-in_default c =
    let d = c.args.self.now in
    subst (λ (lanes : List Bool). IsTrue c.all_name-in_default.result ↔ All (λ (lane : Bool). lane ≡ c.args.wanted) lanes)
    (names-rows (column_of d.values).rows c.presence.result.now (rw c.values-in_default.ensures.value at c.presence.ensures) (column_of d.codes).rows c.codes-in_default.ensures.fits.below)
    (rw c.codes-in_default.ensures.value at c.all_name-in_default.ensures)
