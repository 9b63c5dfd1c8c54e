use Rattle.std.proofs.Common.{◌≡◌, length}
use Rattle.vortex_array_types.specs.Cells.{dtype_of}
use Rattle.vortex_array_types.proofs.filter_check.column_type.Given as goal

abbrev pub invariant-loop-rest : goal.invariant-loop-rest
invariant-loop-rest l = dtype_of l.rest l.name ≡ dtype_of l.fn.columns l.fn.name

abbrev pub decreases-loop-rest : goal.decreases-loop-rest
decreases-loop-rest l = length l.rest
