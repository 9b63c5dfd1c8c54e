use Rattle.std.proofs.Common.{◌≡◌, [], get_or}
use Rattle.vortex_array_kinds.specs.StringValues.{string_value}
use Rattle.vortex_array_order.proofs.RowsUnder.{read-at, read-inside, strings-stand}
use Rattle.vortex_array_order.proofs.strings.StringsCompared.compare.Goals as goal

pub get-first-requires : goal.get-first-requires
get-first-requires c = rw c.lists-lists.ensures.value (read-inside (string_value c.args.self.now.kind) c.args.self.now.lists c.args.i c.requires.first)

pub get-second-requires : goal.get-second-requires
get-second-requires c = rw c.lists-lists.ensures.value (read-inside (string_value c.args.self.now.kind) c.args.self.now.lists c.args.j c.requires.second)

pub returns : goal.returns
returns c =
    let s = c.args.self.now in
    let first : c.get-first.result.now ≡ get_or s.lists c.args.i [] = rw c.lists-lists.ensures.value at c.get-first.ensures in
    let second : c.get-second.result.now ≡ get_or s.lists c.args.j [] = rw c.lists-lists.ensures.value at c.get-second.ensures in
    rw (read-at (string_value s.kind) s.lists c.args.i [] c.requires.first, read-at (string_value s.kind) s.lists c.args.j [] c.requires.second)
    (strings-stand s.kind (get_or s.lists c.args.i []) (get_or s.lists c.args.j []) c.cmp.result (rw (first, second) at c.cmp.ensures))
