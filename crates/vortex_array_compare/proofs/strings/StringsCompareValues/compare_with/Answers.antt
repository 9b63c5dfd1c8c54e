use Rattle.std.proofs.Common.{◌∙◌, ap, map, sym}
use Rattle.std.specs.Cmp.Lexicographic.{slice_cmp}
use Rattle.std.specs.Ordering.{is_eq, nat_cmp}
use Rattle.std.proofs.lemmas.Simd.{map-map}
use Rattle.vortex_array_types.specs.Order.{compares}
use Rattle.vortex_array_kinds.specs.StringValues.{string_value, strings_of}
use Rattle.vortex_array_compare.proofs.OrderAnswers.{beside-compared, kind-stands}
use Rattle.vortex_array_compare.proofs.strings.StringsCompareValues.compare_with.Goals as goal

pub compare_equal_or_orders-requires : goal.compare_equal_or_orders-requires
compare_equal_or_orders-requires c = record { equal = sym (map-map is_eq (λ x. slice_cmp nat_cmp x c.bytes_in-constant.result.now) c.lists-lists.result.now) }

pub returns : goal.returns
returns c =
    let a = c.args.self.now in
    (rw c.lists-lists.ensures.value at c.in_ok-bits.ensures)
    ∙ beside-compared (string_value a.kind) (string_value a.kind) (slice_cmp nat_cmp) c.args.operator (kind-stands a.kind) a.lists c.bytes_in-constant.result.now
    ∙ ap (λ v. map (λ x. compares c.args.operator x v) (strings_of a)) (rw c.kind.ensures at c.bytes_in-constant.ensures.value)
