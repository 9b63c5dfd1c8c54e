use Rattle.std.proofs.Common.{◌≡◌, ℕ, ◌<◌, ◌≤◌, get_or, length}
use Rattle.vortex_scan.specs.Sources.{Clears}
use Rattle.vortex_table_scan.proofs.table.clear_all.Given as goal

abbrev pub invariant-loop-source : goal.invariant-loop-source
invariant-loop-source g l = record {
  long : length l.source-items ≡ length l.fn.sources.items;
  cleared : (k : ℕ) (d : g.row.S.Denot) → k < l.source-index → Clears g.S.IoSource (get_or l.fn.sources.items k d) (get_or l.source-items k d);
  others : (k : ℕ) (d : g.row.S.Denot) → l.source-index ≤ k → get_or l.source-items k d ≡ get_or l.fn.sources.items k d;
}
