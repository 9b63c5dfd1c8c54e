use Rattle.std.proofs.Common.{arith, ◌≡◌, ◌∙◌, ◌+◌, ◌-◌, ◌*◌, ◌/◌, ◌^◌, ap, take, drop, length-drop}
use Rattle.vortex_array_lists.specs.Fronts.{front_number}
use Rattle.vortex_array_lists.proofs.FrontOrder.{cleared, bytes-behind}
use Rattle.vortex_array_lists.proofs.fronts.front_between.Goals as goal

pub returns : goal.returns
returns c =
    let left = drop c.args.start c.args.bytes.now in
    let count = c.args.end - c.args.start in
    let eight : c.args.start + 8 - c.args.start ≡ 8 = omega arith in
    c.kept_bytes.ensures
    ∙ ap (λ word. word / 2 ^ (64 - 8 * count) * 2 ^ (64 - 8 * count)) (c.word_of.ensures ∙ ap (λ n. front_number (take n left)) eight)
    ∙ cleared left count (bytes-behind c.args.bytes.now c.args.start (λ k. (c.type_inv.bytes k).fits)) (omega (arith, length-drop c.args.start c.args.bytes.now))
