use Rattle.std.proofs.Common.{◌≡◌, length, not}
use Rattle.std.specs.Prelude.{find, is_some}
use Rattle.vortex_array_types.specs.Cells.{dtype_of}
use Rattle.vortex_table_scan.proofs.check.first_unknown_in.Given as goal

abbrev pub invariant-names : goal.invariant-names
invariant-names l = find (λ name. not (is_some (dtype_of l.columns name))) l.rest ≡ find (λ name. not (is_some (dtype_of l.columns name))) l.fn.names

abbrev pub decreases-names : goal.decreases-names
decreases-names l = length l.rest
