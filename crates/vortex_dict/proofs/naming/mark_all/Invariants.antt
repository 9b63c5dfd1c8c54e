use Rattle.std.proofs.Common.{map}
use Rattle.vortex_dict.specs.NamedValues.{MarkFirst}
use Rattle.vortex_dict.proofs.naming.mark_all.Given as goal

abbrev pub invariant-loop-row : goal.invariant-loop-row
invariant-loop-row g l = MarkFirst l.nulls (map g.P.RowIndex.place l.places) l.row l.marks
