use Rattle.std.proofs.Common.{◌≡◌, ◌+◌, drop, map, take}
use Rattle.std.specs.List.{list_all}
use Rattle.vortex_array_types.specs.Row.{in_width}
use Rattle.vortex_array_cast.specs.Casts.{AreCast}
use Rattle.vortex_array_cast.proofs.widths.cast_block.Given as goal

abbrev pub invariant-loop-i : goal.invariant-loop-i
invariant-loop-i g l = record {
  cast : AreCast (in_width g.U.NativeValue.width) (drop l.start (map g.T.NativeValue.number l.items)) (map g.U.NativeValue.number (take l.i l.out));
  fit : l.all_fit ≡ list_all (in_width g.U.NativeValue.width) (take (l.start + l.i) (map g.T.NativeValue.number l.items));
}
