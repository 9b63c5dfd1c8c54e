use Rattle.std.proofs.Common.{ℕ, ◌<◌, ◌≡◌, get_or, length, map, None}
use Rattle.std.specs.Prelude.{pos}
use Rattle.vortex_array_kinds.specs.Kinds.{rows_under}
use Rattle.vortex_dict_builders.specs.Building.{IsPlaceOf}
use Rattle.vortex_dict_builders.specs.Encodes.{EncodesFirst}
use Rattle.vortex_dict_builders.proofs.builder.DictBuilder.push_codes.Given as goal

abbrev pub invariant-loop-i : goal.invariant-loop-i
invariant-loop-i g l = record {
  prefix : EncodesFirst l.initial.self (rows_under l.rows.validity (g.E.Stored.Values.items l.rows.values)) l.i l.self;
  count : length l.codes.items ≡ l.i;
  codes : (k : ℕ) → k < l.i → IsPlaceOf l.self.entries (get_or (map g.Code.NativeValue.number l.codes.items) k (pos 0)) (get_or (rows_under l.rows.validity (g.E.Stored.Values.items l.rows.values)) k None);
  same : l.self.dtype ≡ l.initial.self.dtype;
}
