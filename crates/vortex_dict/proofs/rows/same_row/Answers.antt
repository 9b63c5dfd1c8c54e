use Rattle.vortex_array_types.specs.Seen.{value_seen}
use Rattle.vortex_dict.proofs.SameRows.{same-values}
use Rattle.vortex_dict.proofs.rows.same_row.Goals as goal

pub returns-in-Some-Some : goal.returns-in-Some-Some
returns-in-Some-Some c =
    let w = c.in-Some-Some in
    rw (w.is-0, w.is-1, c.compares.ensures) (same-values (value_seen w.a) (value_seen w.b))
