use Rattle.std.proofs.Common.{◌∙◌}
use Rattle.std.specs.Cmp.Lexicographic.{slice_cmp}
use Rattle.std.specs.Ordering.{is_eq, nat_cmp}
use Rattle.vortex_array_kinds.specs.StringValues.{string_value}
use Rattle.vortex_array_compare.proofs.OrderAnswers.{each-compared, mapped-pairs, strings-stand}
use Rattle.vortex_array_compare.proofs.strings.StringsCompareValues.compare_each.Goals as goal

pub compare_equal_or_orders-requires : goal.compare_equal_or_orders-requires
compare_equal_or_orders-requires c = record { equal = mapped-pairs is_eq (slice_cmp nat_cmp) c.lists-left.result.now c.lists-right.result.now }

pub returns : goal.returns
returns c =
    let a = c.args.self.now in
    let b = c.args.other.now in
    (rw (c.lists-left.ensures.value, c.lists-right.ensures.value) at c.in_ok-bits.ensures)
    ∙ each-compared (string_value a.kind) (string_value b.kind) (slice_cmp nat_cmp) c.args.operator (strings-stand a.kind b.kind c.requires.same_type) a.lists b.lists
