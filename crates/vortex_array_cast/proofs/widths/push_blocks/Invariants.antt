use Rattle.std.proofs.Common.{◌≡◌, ◌*◌, length, map, min, take}
use Rattle.std.specs.List.{list_all}
use Rattle.vortex_array_types.specs.Row.{in_width}
use Rattle.vortex_array_cast.specs.Casts.{AreCast}
use Rattle.vortex_array_cast.proofs.widths.push_blocks.Given as goal

abbrev pub invariant-loop-k : goal.invariant-loop-k
invariant-loop-k g l = record {
  cast : AreCast (in_width g.U.NativeValue.width) (map g.T.NativeValue.number l.items) (map g.U.NativeValue.number l.out.items);
  end : length l.out.items ≡ min (512 * l.k) (length l.items);
  fit : l.fit ≡ list_all (in_width g.U.NativeValue.width) (take (length l.out.items) (map g.T.NativeValue.number l.items));
}
