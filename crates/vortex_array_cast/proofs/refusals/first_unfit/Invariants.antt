use Rattle.std.proofs.Common.{ℕ, ◌<◌, get_or, None}
use Rattle.std.specs.Prelude.{IsTrue}
use Rattle.vortex_array_types.specs.Row.{fits_type}
use Rattle.vortex_array_kinds.specs.Kinds.{plain_column}
use Rattle.vortex_array_cast.proofs.refusals.first_unfit.Given as goal

abbrev pub invariant-loop-i : goal.invariant-loop-i
invariant-loop-i g l = (j : ℕ) → j < l.i → IsTrue (fits_type l.dtype (get_or (plain_column g.V.Values.type_of g.V.Values.items l.array).rows j None))
